-- How an answer goes from check to check, and what the answers of the fit tell. Assumes nothing.
use Prim.Native.Nat.{ℕ, suc, ◌+◌, ◌≤◌, ◌<◌}
use mathlib.Core.Path.{◌≡◌, refl, sym, ap, ap₂, ◌∙◌}
use mathlib.Core.Bool.{Bool, true, false, ◌&&◌}
use mathlib.Core.List.{List, [], ◌∷◌}
use native.Mathlib.Numerals.{add-one}
use native.Mathlib.Omega.{arith}
use borrow.Author.Tests.{leb-true, eqb-true}
use lib.Ieee.{Float}
use lib.ListN.{length}
use Rattle.refusals.specs.declared.Refusal.{Refusal}
use Rattle.std.specs.Prelude.{Result, Ok, Err}
use Rattle.refusals.specs.declared.Refusal.TheVariants.{Length}
use Rattle.refusals.specs.Checks.{Check, accepted, answer, least, lengths}
use Rattle.whole.proofs.Tests.{both_hold}
use Rattle.refusals.proofs.Answers.{stops, passes, one_stops, one_passes, lengths_fail, refused_stays, accepted_goes_on, accepted_passes}
use Rattle.refusals.proofs.Answers as answers
use Rattle.calibrate_fit.specs.declared.Settings.{Settings}
use Rattle.calibrate_rows.specs.declared.Diagram.{Diagram}
use Rattle.calibrate_rows.specs.declared.RowValues.{RowValues}
use Rattle.calibrate_rows.specs.declared.RowNumbers.{RowNumbers}
use Rattle.calibrate_fit.specs.declared.Calibrated.{Calibrated}
use Rattle.calibrate_fit.specs.Samples.{Reading, vehicle_fits, lanes_fit, sample_at, samples, usable}
use Rattle.calibrate_fit.specs.Diagrams.{largest_flow}
use Rattle.calibrate_fit.specs.Private.{AllUsable, usable_capacity}
use Rattle.calibrate_rows.specs.RowNumbers.{row_numbers}
use Rattle.calibrate_rows.specs.Rows.{cell_settings_fit, values_fit, refused_or, row_as, row_made}
use Rattle.calibrate_rows.proofs.Answers.{test_passes, refused_by, asked_by}
use Rattle.calibrate_fit.specs.Calibration.{lengths_fit, settings_fit, samples_usable, diagram_fits, fit_checks, fitted_diagram, fitted_values, fit_as, calibrated_as, fit_of, calibration_of}

-- what fitting lengths say
pub record Lengths (settings : Settings) (flow occupancy : List Float) : Type 0 where
  pub equal : length flow ≡ length occupancy
  pub few : length flow ≤ 65_536
  pub within : settings.end ≤ length flow

pub lengths_fit_lem : (settings : Settings) (flow occupancy : List Float) → lengths_fit settings flow occupancy ≡ true → Lengths settings flow occupancy
lengths_fit_lem settings flow occupancy e =
    let order = both_hold _ _ e in
    let within = both_hold _ _ order.0 in
    let few = both_hold _ _ within.0 in
    record { equal = eqb-true _ _ few.0; few = leb-true _ _ few.1; within = leb-true _ _ within.1 }

-- the test of number 9 at the place of a sample, which was read and found usable or not
pub tested : (settings : Settings) (flow occupancy : List Float) (i : ℕ) {reading : Reading} {r : Bool} → reading ≡ sample_at settings flow occupancy i → r ≡ usable reading → r ≡ (samples_usable settings flow occupancy).test (i + 1)
tested settings flow occupancy i read e = rw add-one (e ∙ ap usable read)

-- ---- from capacity to the fit
module _ (settings : Settings) (flow occupancy : List Float) where
  abbrev check : Check
  check = samples_usable settings flow occupancy

  abbrev most : Float
  most = largest_flow (samples settings flow occupancy)

  -- number 9 applies, at the least place that fails
  pub fails : {at : ℕ} → at ≡ least check → at < check.places → ◌≡◌ {A = Result Float Refusal} (Err (check.refusal at)) (usable_capacity settings flow occupancy)
  fails e h = ap (λ a. refused_or a most) (stops check accepted e h)

  pub fails_nowhere : {capacity : Float} {at : ℕ} → at ≡ least check → check.places ≤ at → capacity ≡ most → Ok capacity ≡ usable_capacity settings flow occupancy
  fails_nowhere e h found = ap Ok found ∙ ap (λ a. refused_or a most) (passes check e h refl)

  pub capacity_is : {capacity : Float} → Ok capacity ≡ usable_capacity settings flow occupancy → capacity ≡ most
  capacity_is e = (asked_by (answer (check ∷ [])) most e).1

  pub all_usable : {capacity : Float} → Ok capacity ≡ usable_capacity settings flow occupancy → AllUsable settings flow occupancy
  all_usable e =
      let all = (accepted_passes check accepted (sym (asked_by (answer (check ∷ [])) most e).0)).0 in
      λ i h. all (suc i) (omega arith)

  pub other_lengths : false ≡ lengths_fit settings flow occupancy → Err Length ≡ fit_of settings flow occupancy
  other_lengths fit = ap (λ a. fit_as a (fitted_diagram settings flow occupancy)) (lengths_fail _ fit refl)

  module _ (fit : true ≡ lengths_fit settings flow occupancy) where
    pub unusable : {refusal : Refusal} → Err refusal ≡ usable_capacity settings flow occupancy → Err refusal ≡ fit_of settings flow occupancy
    unusable e =
        ap (λ a. fit_as a (fitted_diagram settings flow occupancy))
        (answers.lengths_fit_lem fit refl (one_stops check _ (refused_by (answer (check ∷ [])) most e)))

    pub diagram_decides : {capacity : Float} → Ok capacity ≡ usable_capacity settings flow occupancy → fit_as (answer (diagram_fits settings flow occupancy ∷ [])) (fitted_diagram settings flow occupancy) ≡ fit_of settings flow occupancy
    diagram_decides e =
        ap (λ a. fit_as a (fitted_diagram settings flow occupancy))
        (answers.lengths_fit_lem fit refl (one_passes check (asked_by (answer (check ∷ [])) most e).0 refl))

-- ---- from the fit and the row to the calibration
module _ (settings : Settings) (flow occupancy : List Float) where
  abbrev diagram : Diagram
  diagram = fitted_diagram settings flow occupancy

  abbrev values : RowValues
  values = fitted_values settings flow occupancy

  abbrev first : List Check
  first = fit_checks settings flow occupancy

  abbrev later : List Check
  later = values_fit values ∷ []

  -- where the fit is accepted, number 9 found nothing at place 0
  pub settings_in_range : accepted ≡ answer first → settings_fit settings ≡ true
  settings_in_range e =
      let after_1 = (accepted_passes (lengths (lengths_fit settings flow occupancy)) _ (sym e)).1 in
      (accepted_passes (samples_usable settings flow occupancy) _ after_1).0 0 (omega arith)

  pub cell_in_range : accepted ≡ answer first → cell_settings_fit settings.period settings.cell ≡ true
  cell_in_range e = (both_hold (vehicle_fits settings.g && lanes_fit settings.lanes) _ (settings_in_range e)).1

  pub not_fitted : {refusal : Refusal} → Err refusal ≡ fit_of settings flow occupancy → Err refusal ≡ calibration_of settings flow occupancy
  not_fitted e = ap (λ a. calibrated_as a diagram values) (refused_stays first later (refused_by (answer first) diagram e))

  -- the fit is a diagram, and a row was made of it or not; under settings in range the row maker asks number 11 alone
  module _ {found : Diagram} (e : Ok found ≡ fit_of settings flow occupancy) where
    fitted : (accepted ≡ answer first) × (found ≡ diagram)
    fitted = asked_by (answer first) diagram e

    row_is : row_made found settings.period settings.cell ≡ row_as (answer later) values
    row_is =
        ap (λ d. row_made d settings.period settings.cell) fitted.1
        ∙ ap (λ a. row_as a values) (sym (test_passes _ (answer later) (cell_in_range fitted.0)))

    pub not_made : {refusal : Refusal} → Err refusal ≡ row_made found settings.period settings.cell → Err refusal ≡ calibration_of settings flow occupancy
    not_made made =
        ap (λ a. calibrated_as a diagram values)
        (accepted_goes_on first later fitted.0 (refused_by (answer later) (row_numbers values) (made ∙ row_is)))

    pub calibrated : {row : RowNumbers} → Ok row ≡ row_made found settings.period settings.cell → ◌≡◌ {A = Result Calibrated Refusal} (Ok (record { diagram = found; row = row })) (calibration_of settings flow occupancy)
    calibrated made =
        let row_made = asked_by (answer later) (row_numbers values) (made ∙ row_is) in
        ap₂ both fitted.1 row_made.1
        ∙ ap (λ a. calibrated_as a diagram values) (accepted_goes_on first later fitted.0 row_made.0)
      where
        both : Diagram → RowNumbers → Result Calibrated Refusal
        both diagram row = Ok (record { diagram = diagram; row = row })
