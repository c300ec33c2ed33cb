use Rattle.layout.specs.Corridor.{corridor_of}
use Rattle.join.proofs.Groups.{AddingUp}
use Rattle.join.proofs.add_up.Given as goal

abbrev pub invariant-loop-j : goal.invariant-loop-j
invariant-loop-j l = AddingUp (corridor_of l.old l.state) l.groups l.new l.n l.list l.first l.j
