use Prim.Native.Nat.{ℕ}
use mathlib.Core.List.{List, ◌++◌}
use Rattle.refusals.proofs.Answers.{handed_on, refused_stays, accepted_goes_on}
use Rattle.layout.specs.Corridor.{Corridor, corridor_of}
use Rattle.refusals.specs.Checks.{Check}
use Rattle.accept_rows.specs.Acceptance.{state_numbers, demand_numbers}
use Rattle.accept_rows.proofs.Told.{lengths_refused, checked_row}
use Rattle.accept_rows.proofs.accept_row.Goals as goal

numbers : Corridor → List ℕ → List Check
numbers seen row = state_numbers seen ++ demand_numbers seen row

pub returns-in_err-demand : goal.returns-in_err-demand
unfolding numbers
returns-in_err-demand c =
    handed_on c.from_residual.ensures
    (lengths_refused (numbers (corridor_of c.args.table.now c.args.state.now) c.args.demand.now) c.in_err-demand.ensures.err)

pub returns-in_err-state_numbers : goal.returns-in_err-state_numbers
unfolding numbers
returns-in_err-state_numbers c =
    let d = c.in_ok-demand.demand in
    let seen = corridor_of d.corridor.table.now d.corridor.state.now in
    handed_on c.from_residual-in_err-state_numbers.ensures
    (checked_row c.in_ok-demand.ensures.ok numbers d.fits (refused_stays (state_numbers seen) (demand_numbers seen d.row.now) c.in_err-state_numbers.ensures))

pub returns : goal.returns
unfolding numbers
returns c =
    let d = c.in_ok-demand.demand in
    let seen = corridor_of d.corridor.table.now d.corridor.state.now in
    checked_row c.in_ok-demand.ensures.ok numbers d.fits (accepted_goes_on (state_numbers seen) (demand_numbers seen d.row.now) c.in_ok-state_numbers.ensures c.numbers.ensures)
