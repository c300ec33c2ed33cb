use Prim.Native.Nat.{◌-◌}
use mathlib.Core.Path.{◌≡◌}
use lib.ListN.{length}
use Rattle.layout.specs.Corridor.{corridor_of}
use Rattle.period.specs.Sharing.{asymmetric}
use Rattle.program_steps.proofs.Following.{Following}
use Rattle.program_steps.proofs.demand.follow_run.Given as goal

abbrev pub invariant-loop-from : goal.invariant-loop-from
invariant-loop-from l =
    Following asymmetric l.chunk l.fn.k l.initial.scan l.initial.row (corridor_of l.table l.initial.state) l.initial.sheet l.initial.out l.k l.scan l.row (corridor_of l.table l.state) l.sheet l.out l.from l.at
    × (length l.state ≡ length l.initial.state) × (length l.row ≡ length l.initial.row) × (length l.sheet ≡ length l.initial.sheet) × (length l.out ≡ length l.initial.out)

abbrev pub decreases-loop-from : goal.decreases-loop-from
decreases-loop-from l =
    length l.chunk - l.from
