use Prim.Native.Nat.{◌+◌, ◌-◌}
use mathlib.Core.Path.{refl, sym, ◌∙◌, ◌≡◌}
use native.Mathlib.Omega.{arith}
use borrow.Author.Tests.{le-leb, lt-leb, eqb-true, eqb-false}
use lib.ListN.{length}
use Rattle.text_digits.proofs.Lines.{line_at_most, at_least_2, no_numbers, some_numbers}
use Rattle.whole.proofs.Tests.{same_test}
use Rattle.text_digits.specs.Lines.{further_text, line_text}
use Rattle.text_digits.proofs.decimal.line_fits.Goals as goal

pub returns-then-numbers-room : goal.returns-then-numbers-room
returns-then-numbers-room c = let a = c.args in
    let most = line_at_most a.numbers.now (λ i. omega (arith, c.type_inv.numbers i)) in
    sym (le-leb (a.at + length (line_text a.numbers.now)) a.size (omega (arith, most)))

pub returns-then-room-lt2 : goal.returns-then-room-lt2
returns-then-room-lt2 c = let a = c.args in
    sym (lt-leb (a.at + length (line_text a.numbers.now)) a.size (omega (arith, at_least_2 a.numbers.now)))

pub returns-then-is_empty : goal.returns-then-is_empty
returns-then-is_empty c = let a = c.args in
    let two : length (line_text a.numbers.now) ≡ 2 = rw (no_numbers a.numbers.now (eqb-true _ 0 (sym c.is_empty.ensures ∙ c.if-is_empty.true))) refl in
    sym (le-leb (a.at + length (line_text a.numbers.now)) a.size (omega arith))

pub returns : goal.returns
returns c = let a = c.args in
    let one_more = some_numbers a.numbers.now (eqb-false _ 0 (sym c.is_empty.ensures ∙ c.if-is_empty.false)) in
    c.further_fits.ensures
    ∙ same_test (length (further_text a.numbers.now)) (a.size - a.at - 1) (a.at + length (line_text a.numbers.now)) a.size (λ h. omega (arith, one_more)) (λ h. omega (arith, one_more))
