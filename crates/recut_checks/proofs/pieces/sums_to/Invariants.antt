use Rattle.recut_checks.proofs.Left.{Left}
use Rattle.recut_checks.proofs.pieces.sums_to.Given as goal

abbrev pub invariant-loop-i : goal.invariant-loop-i
invariant-loop-i g l = Left l.n g.terms l.all l.left l.i
