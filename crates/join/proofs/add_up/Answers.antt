use Rattle.std.proofs.Common.{rules}
use mathlib.Core.Path.{refl}
use native.Mathlib.Omega.{arith}
use Rattle.refusals.specs.declared.Refusal.TheVariants.{Groups}
use Rattle.layout.specs.Corridor.{corridor_of}
use Rattle.recut_checks.proofs.Accepted.{list_length, fits}
use Rattle.join.proofs.Groups.{begins, work, goes_on, ends}
use Rattle.join.proofs.add_up.Goals as goal

pub loop-j-init : goal.loop-j-init
loop-j-init c =
    let a = c.args in
    let old = corridor_of a.old.now a.state.now in
    begins _ (fits Groups old a.groups.now a.new.now a.list.now a.new.now a.old.now c.requires) c.cells-n.ensures
    (list_length Groups old a.groups.now a.new.now a.list.now a.new.now a.old.now c.requires)

pub group_vehicles-requires : goal.group_vehicles-requires
group_vehicles-requires c = work c.loop-j.invariant (search rules) refl

pub queue_at-requires : goal.queue_at-requires
queue_at-requires c =
    let asked = work c.loop-j.invariant (search rules) refl in
    omega (arith, asked.state_len, asked.some, asked.inside, c.cells-many.ensures)

pub overflow_add-first : goal.overflow_add-first
overflow_add-first c =
    let asked = work c.loop-j.invariant (search rules) refl in
    omega (arith, asked.inside, c.cells-many.ensures)

-- the last cell of a group lies in the road
pub last_mode_at-requires : goal.last_mode_at-requires
last_mode_at-requires c =
    let asked = work c.loop-j.invariant (search rules) refl in
    omega (arith, asked.state_len, asked.some, asked.inside, c.cells-many.ensures)

pub overflow_add-first-in-loop-j : goal.overflow_add-first-in-loop-j
overflow_add-first-in-loop-j c =
    let asked = work c.loop-j.invariant (search rules) refl in
    omega (arith, asked.inside, c.cells-many.ensures)

pub loop-j-preserved : goal.loop-j-preserved
loop-j-preserved c =
    goes_on c.loop-j.invariant (search rules) refl c.group_vehicles.ensures c.cells-many.ensures c.queue_at.ensures c.last_mode_at.ensures c.put_cell.ensures

pub returns : goal.returns
returns c = ends c.loop-j.invariant (search rules) c.entry_queue.ensures c.put_entry.ensures
