-- How a call ends: the word of its answer, and what its lists then hold. Assumes nothing.
use Rattle.std.specs.Prelude.{Result, Ok, Err}
use Prim.Native.Nat.{ℕ, ◌+◌, ◌*◌, ◌/◌, ◌%◌, ◌<◌}
use mathlib.Core.Path.{◌≡◌, refl, sym, ap, ◌∙◌}
use mathlib.Core.Bool.{Bool, true, false}
use mathlib.Core.List.{List}
use native.Mathlib.Omega.{arith}
use mir.Syntax.{w64}
use mir.Val.{Fits}
use borrow.Author.Tests.{eqb-true}
use lib.Dec.{eqb}
use lib.Ieee.{Float}
use lib.ListN.{length}
use Rattle.refusals.specs.declared.Refusal.{Refusal}
use Rattle.refusals.specs.declared.Refusal.TheVariants.{Length, TableNumber, RoomShares, RampAgain, StateNumber, Demand, QueueOver, Pieces, Sample, Fit, RowValue, Record, Groups}
use Rattle.refusals.specs.Refusals.{number_of, place_of}
use Rattle.refusals.specs.Checks.{Answer, accepted, Check, answer}
use Rattle.whole.proofs.Tests.{both_hold}
use Rattle.accept_ranges.proofs.Ranges.{Between}
use Rattle.layout.specs.Corridor.{Corridor}
use Rattle.period.specs.Sharing.{Sharing}
use Rattle.period.specs.Period.{PeriodDone}
use Rattle.period_run.specs.declared.Ran.{Ran}
use Rattle.period_run.specs.Run.{RunDone}
use Rattle.recut_checks.specs.Change.{ChangeDone}
use Rattle.calibrate_fit.specs.declared.Settings.{Settings}
use Rattle.calibrate_rows.specs.declared.Diagram.{Diagram}
use Rattle.calibrate_rows.specs.declared.RowValues.{RowValues}
use Rattle.calibrate_fit.specs.declared.Calibrated.{Calibrated}
use Rattle.calibrate_rows.specs.RowNumbers.{row_numbers}
use Rattle.calibrate_fit.specs.Calibration.{calibration_checks, fitted_diagram, fitted_values, calibrated_as, calibration_of}
use Rattle.figwimple.specs.Words.{PLACES, ANSWERS, word_of}
use Rattle.figwimple.specs.Private.{COUNTS, Placed}
use Rattle.figwimple.specs.Calls.{PeriodCalled, RunCalled, ChangeCalled, five_of, four_of, results_fit, CalibrateCalled}
use Rattle.calibrate_rows.proofs.Answers.{asked_by, refused_by}
use Rattle.figwimple.proofs.Places.{calibration_placed}

-- Words

-- from 1 to 14
pub numbers : (refusal : Refusal) → Between 1 14 (number_of refusal)
numbers Length = record { least = omega arith; most = omega arith }
numbers (TableNumber cell) = record { least = omega arith; most = omega arith }
numbers (RoomShares cell) = record { least = omega arith; most = omega arith }
numbers (RampAgain cell) = record { least = omega arith; most = omega arith }
numbers (StateNumber cell) = record { least = omega arith; most = omega arith }
numbers (Demand cell) = record { least = omega arith; most = omega arith }
numbers (QueueOver cell) = record { least = omega arith; most = omega arith }
numbers (Pieces cell) = record { least = omega arith; most = omega arith }
numbers (Sample sample) = record { least = omega arith; most = omega arith }
numbers Fit = record { least = omega arith; most = omega arith }
numbers (RowValue value) = record { least = omega arith; most = omega arith }
numbers (Record place) = record { least = omega arith; most = omega arith }
numbers (Groups cell) = record { least = omega arith; most = omega arith }

module _ (count : ℕ) {answered : Answer} {refusal : Refusal} {number place : ℕ} where
  pub word_fits : count < COUNTS → Placed answered → answered ≡ Err refusal → number ≡ number_of refusal → place ≡ place_of refusal → Fits w64 (count * ANSWERS + number * PLACES + place)
  word_fits few placed is n p =
      let low : place_of refusal < PLACES = rw is at placed in
      record { fits = omega (arith, numbers refusal) }

  pub word_is : answered ≡ Err refusal → number ≡ number_of refusal → place ≡ place_of refusal → count * ANSWERS + number * PLACES + place ≡ word_of count answered
  word_is is n p = rw (is, n, p)

-- an accepted answer has number 0 at place 0
abbrev number_in : Answer → ℕ
number_in (Ok done) = 0
number_in (Err refusal) = number_of refusal

abbrev place_in : Answer → ℕ
place_in (Ok done) = 0
place_in (Err refusal) = place_of refusal

-- a caller takes the word apart, and no refusal has number 0
pub record Tells (word periods : ℕ) (answered : Answer) : Type 0 where
  pub count : word / ANSWERS ≡ periods
  pub number : word / PLACES % 256 ≡ number_in answered
  pub place : word % PLACES ≡ place_in answered
  pub accepted : word / PLACES % 256 ≡ 0 → answered ≡ accepted

pub word_tells : (count : ℕ) (answered : Answer) → Placed answered → Tells (word_of count answered) count answered
word_tells count (Ok done) placed =
    record { count = omega arith; number = omega arith; place = omega arith; accepted = λ e. refl }
word_tells count (Err refusal) placed =
    record {
      count = omega (arith, numbers refusal);
      number = omega (arith, numbers refusal);
      place = omega arith;
      accepted = λ e. absurd (omega (arith, numbers refusal));
    }

-- an answer that equals one whose place fits
pub fits_as : {a b : Answer} → a ≡ b → Placed b → Placed a
fits_as e fits = rw e fits

-- Periods, runs, re-cuts and joins

module _ {way : Sharing} {c : Corridor} {demand sheet state_left sheet_left : List ℕ} {word : ℕ} where
  pub period_called : {a : Answer} → PeriodDone way c demand sheet a state_left sheet_left → word ≡ word_of 0 a → PeriodCalled way c demand sheet word state_left sheet_left
  period_called done e =
      record {
        answered = e ∙ ap (word_of 0) done.answered;
        leaves = record { answered = refl; leaves_state = done.leaves_state; leaves_sheet = done.leaves_sheet };
      }

  pub run_called : {ran : Ran} → RunDone way c demand sheet ran state_left sheet_left → word ≡ word_of ran.periods ran.answer → RunCalled way c demand sheet word state_left sheet_left
  run_called done e =
      record {
        answered = rw (← done.periods, ← done.answered) e;
        leaves =
            record { periods = refl; answered = refl; leaves_state = done.leaves_state; leaves_sheet = done.leaves_sheet };
      }

pub change_called : {checks : List Check} {made list left : List ℕ} {a : Answer} {word : ℕ} → ChangeDone checks made list a left → word ≡ word_of 0 a
    → ChangeCalled checks made list word left
change_called done e =
    record { answered = e ∙ ap (word_of 0) done.answered; leaves = record { answered = refl; leaves = done.leaves } }

-- Calibrations

module _ (settings : Settings) (flow occupancy diagram : List Float) (row : List ℕ) {fits : Bool} (test : fits ≡ results_fit diagram row) where
  pub results_refused : fits ≡ false → {word : ℕ} → word ≡ word_of 0 (Err Length) → CalibrateCalled settings flow occupancy diagram row word diagram row
  results_refused fails e =
      let none = sym test ∙ fails in
      record { answered = rw none e; leaves_diagram = rw none; leaves_row = rw none }

  module _ (passes : fits ≡ true) where
    fit : results_fit diagram row ≡ true
    fit = sym test ∙ passes

    pub diagram_length : length diagram ≡ 5
    diagram_length = eqb-true _ _ (both_hold (eqb (length diagram) 5) (eqb (length row) 4) fit).0

    pub row_length : length row ≡ 4
    row_length = eqb-true _ _ (both_hold (eqb (length diagram) 5) (eqb (length row) 4) fit).1

    module _ {found : Result Calibrated Refusal} (is : found ≡ calibration_of settings flow occupancy) where
      abbrev asked : Calibrated
      asked =
          record { diagram = fitted_diagram settings flow occupancy; row = row_numbers (fitted_values settings flow occupancy) }

      refusal_is : {refusal : Refusal} → found ≡ Err refusal → Err refusal ≡ answer (calibration_checks settings flow occupancy)
      refusal_is e =
          refused_by (answer (calibration_checks settings flow occupancy)) asked (sym e ∙ is)

      pub refusal_placed : {refusal : Refusal} → found ≡ Err refusal → Placed (Err refusal)
      refusal_placed e = fits_as (refusal_is e) (calibration_placed settings flow occupancy)

      pub calibrate_refused : {refusal : Refusal} {word : ℕ} → found ≡ Err refusal → word ≡ word_of 0 (Err refusal) → CalibrateCalled settings flow occupancy diagram row word diagram row
      calibrate_refused e w =
          record {
            answered = rw (fit, ← refusal_is e) w;
            leaves_diagram = rw (fit, ← refusal_is e);
            leaves_row = rw (fit, ← refusal_is e);
          }

      pub calibrate_done : {made : Calibrated} {diagram_left : List Float} {row_left : List ℕ} → found ≡ Ok made → diagram_left ≡ five_of made.diagram → row_left ≡ four_of made.row → CalibrateCalled settings flow occupancy diagram row 0 diagram_left row_left
      calibrate_done e five four =
          let told = asked_by (answer (calibration_checks settings flow occupancy)) asked (sym e ∙ is) in
          record {
            answered = rw (fit, ← told.0);
            leaves_diagram = rw (fit, ← told.0) (five ∙ ap (λ made. five_of made.diagram) told.1);
            leaves_row = rw (fit, ← told.0) (four ∙ ap (λ made. four_of made.row) told.1);
          }
