use mathlib.Core.Path.{◌≡◌}
use Rattle.whole.specs.Search.{every}
use Rattle.layout.specs.Layout.{queue_at, on_demand_at}
use Rattle.accept_ranges.specs.Ranges.{queue_holds}
use Rattle.accept_limits.proofs.queues_hold.Given as goal

abbrev pub invariant-loop-i : goal.invariant-loop-i
invariant-loop-i l = l.all ≡ every l.i (λ k. queue_holds (queue_at l.n l.state k) (on_demand_at l.demand k))
