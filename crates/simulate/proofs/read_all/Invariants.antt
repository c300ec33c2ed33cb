use Rattle.std.proofs.Common.{◌≡◌, length}
use Rattle.simulate.proofs.Reading.{Stands}
use Rattle.simulate.proofs.read_all.Given as goal

abbrev pub invariant-reads : goal.invariant-reads
invariant-reads g l = Stands l.fields l.initial.list l.reading l.list × (length l.list ≡ length l.initial.list)
