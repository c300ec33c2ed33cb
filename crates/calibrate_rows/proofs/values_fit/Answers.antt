use Rattle.std.proofs.Common.{◌∙◌}
use Rattle.std.proofs.lemmas.Result.{err_from_is_err_and}
use lib.Ieee.{of_bits, of_int}
use Rattle.calibrate_rows.proofs.Answers.{in_turn, refuses, goes_on}
use Rattle.calibrate_rows.proofs.values_fit.Goals as goal

pub returns-in_err-value_fits : goal.returns-in_err-value_fits
unfolding of_bits of_int
returns-in_err-value_fits c =
    let p = err_from_is_err_and c.from_residual.result c.from_residual.ensures.1 in
    rw (p.1, p.2) (refuses _ _ _ c.in_err-value_fits.ensures ∙ in_turn c.args.values)

pub returns-in_err-value_fits-2 : goal.returns-in_err-value_fits-2
unfolding of_bits of_int
returns-in_err-value_fits-2 c =
    let p = err_from_is_err_and c.from_residual-in_err-value_fits-2.result c.from_residual-in_err-value_fits-2.ensures.1 in
    rw (p.1, p.2) (goes_on _ _ c.in_ok-value_fits.ensures (refuses _ _ _ c.in_err-value_fits-2.ensures) ∙ in_turn c.args.values)

pub returns-in_err-value_fits-3 : goal.returns-in_err-value_fits-3
unfolding of_bits of_int
returns-in_err-value_fits-3 c =
    let p = err_from_is_err_and c.from_residual-in_err-value_fits-3.result c.from_residual-in_err-value_fits-3.ensures.1 in
    rw (p.1, p.2) (goes_on _ _ c.in_ok-value_fits.ensures (goes_on _ _ c.in_ok-value_fits-2.ensures (refuses _ _ _ c.in_err-value_fits-3.ensures)) ∙ in_turn c.args.values)

pub returns : goal.returns
unfolding of_bits of_int
returns c =
    goes_on _ _ c.in_ok-value_fits.ensures (goes_on _ _ c.in_ok-value_fits-2.ensures (goes_on _ _ c.in_ok-value_fits-3.ensures c.value_fits-4.ensures)) ∙ in_turn c.args.values
