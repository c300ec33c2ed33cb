use mathlib.Core.List.{[], ◌∷◌}
use Rattle.refusals.proofs.Answers.{handed_on, refused_stays, accepted_goes_on}
use Rattle.accept_tables.specs.Tables.{table_numbers}
use Rattle.layout.specs.Corridor.{corridor_of}
use Rattle.accept_rows.specs.Acceptance.{state_in_range}
use Rattle.accept_rows.proofs.Told.{table_told}
use Rattle.accept_rows.proofs.lists.Corridor.state_numbers.Goals as goal

pub returns-in_err-accept_table : goal.returns-in_err-accept_table
returns-in_err-accept_table c =
    let seen = corridor_of c.args.self.now.table.now c.args.self.now.state.now in
    handed_on c.from_residual.ensures
    (refused_stays (table_numbers seen.table) (state_in_range seen ∷ []) (table_told seen c.args.self.now.fits c.in_err-accept_table.ensures))

pub returns : goal.returns
returns c =
    let seen = corridor_of c.args.self.now.table.now c.args.self.now.state.now in
    accepted_goes_on (table_numbers seen.table) (state_in_range seen ∷ []) (table_told seen c.args.self.now.fits c.in_ok-accept_table.ensures) c.state_in_range.ensures
