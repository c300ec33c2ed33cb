-- What a check of one place and the check of number 11 answer, and what an answer tells. Assumes nothing.
use lib.Ieee.{Float}
use Rattle.std.proofs.Common.{◌≡◌, ℕ, ◌+◌, sym, ap, ◌∙◌, Bool, true, false, refl, lit<}
use Rattle.std.specs.Prelude.{Ok, Err, [], ◌∷◌, slice_index_or}
use Rattle.whole.specs.Search.{pick}
use Rattle.refusals.proofs.Answers.{accepted_passes}
use Rattle.refusals.specs.declared.Refusal.{Refusal}
use Rattle.refusals.specs.declared.Refusal.TheVariants.{Sample, RowValue}
use Rattle.refusals.specs.Checks.{Answer, Check, accepted, answer, or_later}
use Rattle.calibrate_rows.specs.declared.RowValues.{RowValues}
use Rattle.calibrate_rows.specs.declared.Diagram.{Diagram}
use Rattle.calibrate_rows.specs.RowNumbers.{row_values, value_fits}
use Rattle.calibrate_rows.specs.Rows.{cell_settings_fit, values_fit, refused_or, row_as, row_made}
use Rattle.calibrate_rows.specs.Private.{EachFits}

-- a check of one place
pub test_fails : (refusal : ℕ → Refusal) (later : Answer) {fit : Bool} → fit ≡ false → Err (refusal 0) ≡ or_later (record { places = 1; test = λ _. fit; refusal = refusal }) later
unfolding or_later
test_fails refusal later e = rw e

pub test_passes : (refusal : ℕ → Refusal) (later : Answer) {fit : Bool} → fit ≡ true → later ≡ or_later (record { places = 1; test = λ _. fit; refusal = refusal }) later
unfolding or_later
test_passes refusal later e = rw e

-- where the settings fit, number 11 decides
pub number_11_decides : (diagram : Diagram) (period : ℕ) (cell : Float) {values : RowValues} → values ≡ row_values diagram period cell → true ≡ cell_settings_fit period cell → row_as (answer (values_fit values ∷ [])) values ≡ row_made diagram period cell
number_11_decides diagram period cell e fit =
    let values = row_values diagram period cell in
    ap (λ r. row_as (answer (values_fit r ∷ [])) r) e
    ∙ ap (λ a. row_as a values) (test_passes Sample (answer (values_fit values ∷ [])) (sym fit))

-- one more test before what is asked later: it refuses, or leaves the answer to what is asked later
pub refuses : (fit : Bool) (at : Refusal) {refusal : Refusal} (later : Answer) → Err refusal ≡ pick fit accepted (Err at) → Err refusal ≡ pick fit later (Err at)
refuses true at later e = cc
refuses false at later e = e

pub goes_on : (fit : Bool) (at : Refusal) {done : Unit {0}} {a later : Answer} → Ok done ≡ pick fit accepted (Err at) → a ≡ later → a ≡ pick fit later (Err at)
goes_on true at e next = next
goes_on false at e next = cc

-- number 11 asks one value after the other
abbrev of_four : Bool → Bool → Bool → Bool → Check
of_four v w capacity jam = record { places = 4; test = λ k. slice_index_or (v ∷ w ∷ capacity ∷ jam ∷ []) k true; refusal = λ k. RowValue (k + 1) }

pub in_turn : (values : RowValues) → pick (value_fits 65_536 values.v) (pick (value_fits 65_536 values.w) (pick (value_fits 1_000_000 values.capacity) (pick (value_fits 4_000_000 values.jam) accepted (Err (RowValue 4))) (Err (RowValue 3))) (Err (RowValue 2))) (Err (RowValue 1)) ≡ answer (values_fit values ∷ [])
unfolding or_later
in_turn values = by (value_fits 65_536 values.v) (value_fits 65_536 values.w) (value_fits 1_000_000 values.capacity) (value_fits 4_000_000 values.jam)
  where
    by : (v w capacity jam : Bool) → pick v (pick w (pick capacity (pick jam accepted (Err (RowValue 4))) (Err (RowValue 3))) (Err (RowValue 2))) (Err (RowValue 1)) ≡ answer (of_four v w capacity jam ∷ [])
    by false w capacity jam = refl
    by true false capacity jam = refl
    by true true false jam = refl
    by true true true false = refl
    by true true true true = refl

-- the four values fit where the check of number 11 finds nothing
pub values_fit_lem : (values : RowValues) → answer (values_fit values ∷ []) ≡ accepted → EachFits values
values_fit_lem values e =
    let fit = (accepted_passes (values_fit values) accepted e).0 in
    record { v = fit 0 (lit< tt); w = fit 1 (lit< tt); capacity = fit 2 (lit< tt); jam = fit 3 (lit< tt) }

-- what an answer tells that has something to say
pub refused_by : {A : Type 0} (a : Answer) (asked : A) {refusal : Refusal} → Err refusal ≡ refused_or a asked → Err refusal ≡ a
refused_by (Ok done) asked e = cc
refused_by (Err r) asked e = cc

pub asked_by : {A : Type 0} (a : Answer) (asked : A) {given : A} → Ok given ≡ refused_or a asked → (accepted ≡ a) × (given ≡ asked)
asked_by (Ok done) asked e = (refl, cc)
asked_by (Err r) asked e = (cc, cc)
