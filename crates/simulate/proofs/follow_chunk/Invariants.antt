use Rattle.std.proofs.Common.{◌≡◌, ◌-◌, length, drop}
use Rattle.layout.specs.Corridor.{corridor_of}
use Rattle.period.specs.Sharing.{asymmetric}
use Rattle.program_steps.proofs.Leading.{LeadsTo}
use Rattle.simulate.proofs.follow_chunk.Given as goal

abbrev pub invariant-loop-from : goal.invariant-loop-from
invariant-loop-from g l =
    LeadsTo asymmetric l.fn.attempt.k l.fn.attempt.scan l.initial.row (corridor_of l.table l.initial.state) l.initial.sheet l.chunk l.k l.scan l.row (corridor_of l.table l.state) l.sheet (drop l.from l.chunk)
    × (length l.state ≡ length l.initial.state) × (length l.row ≡ length l.initial.row) × (length l.sheet ≡ length l.initial.sheet) × (length l.out ≡ length l.initial.out)

abbrev pub decreases-loop-from : goal.decreases-loop-from
decreases-loop-from g l = length l.chunk - l.from
