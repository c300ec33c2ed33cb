use Rattle.layout.specs.Corridor.{corridor_of}
use Rattle.recut.proofs.Cutting.{Cutting}
use Rattle.recut.proofs.cut.Given as goal

abbrev pub invariant-loop-j : goal.invariant-loop-j
invariant-loop-j l = Cutting (corridor_of l.old l.state) l.pieces l.new l.n l.list l.piece l.rest l.j
