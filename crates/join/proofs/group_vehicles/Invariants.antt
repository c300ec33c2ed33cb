use mathlib.Core.Path.{◌≡◌}
use Rattle.layout.specs.Corridor.{corridor_of}
use Rattle.join.specs.Join.{group_vehicles}
use Rattle.join.proofs.group_vehicles.Given as goal

abbrev pub invariant-loop-k : goal.invariant-loop-k
invariant-loop-k l = l.sum ≡ group_vehicles (corridor_of l.old l.state) l.first l.k
