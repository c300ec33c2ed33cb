use Rattle.std.proofs.lemmas.Result.{err_from_is_err_and}
use Rattle.calibrate_fit.proofs.Answers.{not_fitted, not_made, calibrated}
use Rattle.calibrate_fit.proofs.calibrate.Goals as goal

pub returns-in_err-diagram : goal.returns-in_err-diagram
returns-in_err-diagram c = let lists = c.args in
    let p = err_from_is_err_and c.from_residual.result c.from_residual.ensures.1 in
    rw (p.1, p.2) (not_fitted lists.settings lists.flow.now lists.occupancy.now c.in_err-diagram.ensures)

pub returns-in_err-row : goal.returns-in_err-row
returns-in_err-row c = let lists = c.args in
    let p = err_from_is_err_and c.from_residual-in_err-row.result c.from_residual-in_err-row.ensures.1 in
    rw (p.1, p.2) (not_made lists.settings lists.flow.now lists.occupancy.now c.in_ok-diagram.ensures c.in_err-row.ensures)

pub returns : goal.returns
returns c = let lists = c.args in
    calibrated lists.settings lists.flow.now lists.occupancy.now c.in_ok-diagram.ensures c.in_ok-row.ensures
