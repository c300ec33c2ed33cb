use Rattle.refusals.proofs.Answers.{handed_on}
use Rattle.layout.specs.Corridor.{corridor_of}
use Rattle.accept_rows.specs.Acceptance.{state_numbers}
use Rattle.accept_rows.proofs.Told.{lengths_refused, checked}
use Rattle.accept_rows.proofs.accept_state.Goals as goal

pub returns-in_err-new : goal.returns-in_err-new
returns-in_err-new c =
    handed_on c.from_residual.ensures (lengths_refused (state_numbers (corridor_of c.args.table.now c.args.state.now)) c.in_err-new.ensures.err)

pub returns : goal.returns
returns c = checked c.in_ok-new.ensures.ok state_numbers c.in_ok-new.field-0.fits c.state_numbers.ensures
