use Rattle.text_digits.proofs.Lines.{Counting}
use Rattle.text_digits.proofs.decimal.further_fits.Given as goal

abbrev pub invariant-loop-number : goal.invariant-loop-number
invariant-loop-number l = Counting l.numbers l.room l.left l.number-index
