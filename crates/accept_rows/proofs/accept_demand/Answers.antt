use Rattle.refusals.proofs.Answers.{handed_on}
use Rattle.layout.specs.Corridor.{corridor_of}
use Rattle.accept_rows.specs.Acceptance.{demand_numbers}
use Rattle.accept_rows.proofs.Told.{lengths_refused, checked_row}
use Rattle.accept_rows.proofs.accept_demand.Goals as goal

pub returns-in_err-new : goal.returns-in_err-new
returns-in_err-new c =
    handed_on c.from_residual.ensures
    (lengths_refused (demand_numbers (corridor_of c.args.table.now c.args.state.now) c.args.demand.now) c.in_err-new.ensures.err)

pub returns : goal.returns
returns c = checked_row c.in_ok-new.ensures.ok demand_numbers c.in_ok-new.field-0.fits c.numbers.ensures
