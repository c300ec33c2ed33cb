use Rattle.period.specs.Sharing.{asymmetric}
use Rattle.period.specs.Starts.{corridor}
use Rattle.period.proofs.Filling.{FlowsFrom}
use Rattle.period.proofs.passes.Start.flows.Given as goal

abbrev pub invariant-loop-i : goal.invariant-loop-i
invariant-loop-i l = FlowsFrom asymmetric (corridor l.self) l.self.demand.now l.self.n l.sheet l.i
