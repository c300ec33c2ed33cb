use mathlib.Core.Path.{refl, sym, ◌∙◌}
use Rattle.refusals.proofs.Answers.{handed_on, one_stops, one_passes}
use Rattle.layout.specs.Corridor.{corridor_of}
use Rattle.accept_rows.specs.Acceptance.{demand_in_range, queues_hold}
use Rattle.accept_rows.proofs.Accepted.{both_pass}
use Rattle.accept_rows.proofs.lists.Demand.numbers.Goals as goal

pub returns-then-passes : goal.returns-then-passes
returns-then-passes c =
    let d = c.args.self.now in
    let seen = corridor_of d.corridor.table.now d.corridor.state.now in
    both_pass (demand_in_range seen d.row.now) (queues_hold seen d.row.now) refl (sym c.if-passes.true ∙ c.passes.ensures)

pub returns-in_err-in_range : goal.returns-in_err-in_range
returns-in_err-in_range c = handed_on c.from_residual.ensures (one_stops _ _ c.in_err-in_range.ensures)

pub returns : goal.returns
returns c = one_passes _ c.in_ok-in_range.ensures c.queues_hold.ensures
