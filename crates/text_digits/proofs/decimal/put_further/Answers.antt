use native.Mathlib.Omega.{arith}
use lib.ListN.{length-set}
use Rattle.text_digits.proofs.Digits.{at_most_20}
use Rattle.text_digits.proofs.decimal.put_further.Goals as goal

pub put_digits-requires : goal.put_digits-requires
put_digits-requires c = let a = c.args in
    omega (arith, at_most_20 a.number (omega arith), length-set a.buffer.now a.at 44)
