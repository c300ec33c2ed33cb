use Rattle.std.proofs.Common.{sym, ap, ◌∙◌}
use Rattle.std.proofs.lemmas.Result.{err_from_is_err_and}
use Rattle.std.specs.Prelude.{Ok}
use Rattle.refusals.specs.declared.Refusal.TheVariants.{Sample}
use Rattle.calibrate_rows.proofs.Answers.{test_fails, number_11_decides, values_fit_lem}
use Rattle.calibrate_rows.specs.Rows.{row_as}
use Rattle.calibrate_rows.specs.RowNumbers.{row_values}
use Rattle.calibrate_rows.proofs.make_row.Goals as goal

pub returns-then-not-cell_settings_fit : goal.returns-then-not-cell_settings_fit
returns-then-not-cell_settings_fit c = let given = c.args in
    ap (λ a. row_as a (row_values given.diagram given.period given.cell)) (test_fails Sample _ (sym c.if-not-cell_settings_fit.ensures))

pub returns-in_err-values_fit : goal.returns-in_err-values_fit
returns-in_err-values_fit c = let given = c.args in
    let p = err_from_is_err_and c.from_residual.result c.from_residual.ensures.1 in
    rw (p.1, p.2)
    (ap (λ a. row_as a c.row_values-values.result) c.in_err-values_fit.ensures
    ∙ number_11_decides given.diagram given.period given.cell c.row_values-values.ensures c.if-not-cell_settings_fit.ensures)

pub row_numbers-requires : goal.row_numbers-requires
row_numbers-requires c = values_fit_lem _ (sym c.in_ok-values_fit.ensures)

pub returns : goal.returns
returns c = let given = c.args in
    ap Ok c.row_numbers.ensures
    ∙ ap (λ a. row_as a c.row_values-values.result) c.in_ok-values_fit.ensures
    ∙ number_11_decides given.diagram given.period given.cell c.row_values-values.ensures c.if-not-cell_settings_fit.ensures
