use Rattle.text_digits.proofs.Lines.{Putting}
use Rattle.text_digits.proofs.decimal.put_line.Given as goal

abbrev pub invariant-loop-i : goal.invariant-loop-i
invariant-loop-i l = Putting l.numbers l.initial.buffer l.at l.buffer l.next l.i
