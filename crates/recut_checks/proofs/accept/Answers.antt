use mathlib.Core.Path.{ap, ◌∙◌}
use Rattle.refusals.proofs.Answers.{handed_on}
use Rattle.layout.specs.Layout.{cells}
use Rattle.layout.specs.Corridor.{corridor_of}
use Rattle.recut_checks.specs.Change.{whole_of, parts_of, refusal_of}
use Rattle.recut_checks.proofs.Answers.{change_refused, pieces_decide}
use Rattle.recut_checks.proofs.accept.Goals as goal

pub returns-in_err-accept_lists : goal.returns-in_err-accept_lists
returns-in_err-accept_lists c =
    let a = c.args in
    let many = c.cells.ensures ∙ ap cells c.sides.ensures.whole in
    handed_on c.from_residual.ensures
    (change_refused (refusal_of a.change) (corridor_of a.old.now a.state.now) a.counts.now a.new.now a.list.now (whole_of a.change a.old.now a.new.now) (parts_of a.change a.old.now a.new.now) many c.in_err-accept_lists.ensures)

pub returns : goal.returns
returns c =
    let a = c.args in
    let many = c.cells.ensures ∙ ap cells c.sides.ensures.whole in
    pieces_decide (refusal_of a.change) (corridor_of a.old.now a.state.now) a.counts.now a.new.now a.list.now (whole_of a.change a.old.now a.new.now) (parts_of a.change a.old.now a.new.now) many c.sides.ensures.whole c.sides.ensures.parts c.in_ok-accept_lists.ensures c.pieces_number.ensures
