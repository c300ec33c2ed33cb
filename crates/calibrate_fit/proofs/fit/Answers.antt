use Rattle.std.proofs.Common.{◌∙◌}
use Rattle.std.proofs.lemmas.Result.{err_from_is_err_and}
use Rattle.calibrate_fit.proofs.Answers.{capacity_is, all_usable, other_lengths, unusable, diagram_decides}
use Rattle.calibrate_fit.proofs.fit.Goals as goal

pub returns-then-not-lengths_fit : goal.returns-then-not-lengths_fit
returns-then-not-lengths_fit c = let lists = c.args in
    other_lengths lists.settings lists.flow.now lists.occupancy.now c.if-not-lengths_fit.ensures

pub returns-in_err-capacity : goal.returns-in_err-capacity
returns-in_err-capacity c = let lists = c.args in
    let p = err_from_is_err_and c.from_residual.result c.from_residual.ensures.1 in
    rw (p.1, p.2) (unusable lists.settings lists.flow.now lists.occupancy.now c.if-not-lengths_fit.ensures c.in_err-capacity.ensures)

pub invariant_of-detector-clause-all_usable : goal.invariant_of-detector-clause-all_usable
invariant_of-detector-clause-all_usable c = let lists = c.args in
    all_usable lists.settings lists.flow.now lists.occupancy.now c.in_ok-capacity.ensures

pub diagram-requires : goal.diagram-requires
diagram-requires c = let lists = c.args in
    capacity_is lists.settings lists.flow.now lists.occupancy.now c.in_ok-capacity.ensures

pub returns : goal.returns
returns c = let lists = c.args in
    c.diagram.ensures
    ∙ diagram_decides lists.settings lists.flow.now lists.occupancy.now c.if-not-lengths_fit.ensures c.in_ok-capacity.ensures
