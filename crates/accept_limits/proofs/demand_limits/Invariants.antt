use Rattle.accept_limits.proofs.Limits.{Limiting}
use Rattle.accept_limits.proofs.demand_limits.Given as goal

abbrev pub invariant-loop-i : goal.invariant-loop-i
invariant-loop-i l = Limiting l.table l.initial.limits l.n l.limits l.i
