use mathlib.Core.Path.{◌≡◌, refl}
use native.Mathlib.Omega.{arith}
use lib.ListN.{length}
use Rattle.text_digits.proofs.Digits.{one_digit, one_longer, some_digit, at_most_20}
use Rattle.text_digits.specs.Lines.{digits_of}
use Rattle.text_digits.proofs.decimal.digit_count.Goals as goal

pub overflow_add-count : goal.overflow_add-count
overflow_add-count c = let n = c.args.number in
    omega (arith, at_most_20 n (omega arith), c.loop-rest.invariant, some_digit c.loop-rest.rest)

pub loop-rest-preserved : goal.loop-rest-preserved
loop-rest-preserved c = omega (arith, c.loop-rest.invariant, one_longer c.loop-rest.rest c.loop-rest-test.true)

pub returns : goal.returns
returns c = let alone : length (digits_of c.loop-rest.rest) ≡ 1 = rw (one_digit c.loop-rest.rest c.loop-rest-test.false) refl in
    omega (arith, c.loop-rest.invariant)
