use Rattle.recut_checks.proofs.Checking.{Checking}
use Rattle.recut_checks.proofs.pieces_number.Given as goal

abbrev pub invariant-loop-i : goal.invariant-loop-i
invariant-loop-i l = Checking l.whole l.counts l.parts l.first l.i
