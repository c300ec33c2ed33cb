use Rattle.std.proofs.Common.{◌≡◌, length}
use Rattle.layout.specs.Corridor.{corridor_of}
use Rattle.period.specs.Sharing.{asymmetric}
use Rattle.simulate.proofs.Going.{Stands}
use Rattle.simulate.proofs.run_demand.Given as goal

abbrev pub invariant-reads : goal.invariant-reads
invariant-reads g l =
    Stands asymmetric l.initial.row (corridor_of l.table l.initial.state) l.initial.sheet l.attempt l.row (corridor_of l.table l.state) l.sheet
    × (length l.state ≡ length l.initial.state) × (length l.row ≡ length l.initial.row) × (length l.sheet ≡ length l.initial.sheet) × (length l.out ≡ length l.initial.out)
