use Rattle.text_digits.proofs.Lines.{Resting}
use Rattle.text_digits.proofs.decimal.put_rest.Given as goal

abbrev pub invariant-loop-number : goal.invariant-loop-number
invariant-loop-number l = Resting l.number-items l.initial.buffer l.at l.buffer l.next l.number-index
