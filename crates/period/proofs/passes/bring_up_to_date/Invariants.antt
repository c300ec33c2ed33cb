use Rattle.period.proofs.Updating.{UpdatedFrom}
use Rattle.period.proofs.passes.bring_up_to_date.Given as goal

abbrev pub invariant-loop-i : goal.invariant-loop-i
invariant-loop-i l = UpdatedFrom l.n l.initial.state l.demand l.sheet l.state l.i
