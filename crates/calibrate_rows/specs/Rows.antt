-- Rules, "Refusal numbers" 9 and 11: what is asked of a row, and what is answered.
use Rattle.std.specs.Prelude.{ℕ, ◌+◌, Bool, true, ◌&&◌, List, [], ◌∷◌, slice_index_or, Float, Result, Ok, Err}
use Rattle.whole.specs.Search.{within}
use Rattle.refusals.specs.declared.Refusal.TheVariants.{Sample, RowValue}
use Rattle.refusals.specs.declared.Refusal.{Refusal}
use Rattle.refusals.specs.Checks.{Answer, Check, answer}
use Rattle.calibrate_rows.specs.declared.Diagram.{Diagram}
use Rattle.calibrate_rows.specs.declared.RowValues.{RowValues}
use Rattle.calibrate_rows.specs.declared.RowNumbers.{RowNumbers}
use Rattle.calibrate_rows.specs.Doubles.{◌⊘◌, double, between}
use Rattle.calibrate_rows.specs.RowNumbers.{row_values, row_numbers, value_fits}

-- T 1 to 60 whole seconds; L 1/64 to 8 miles
abbrev pub period_fits : ℕ → Bool
period_fits period = within 1 60 period

abbrev pub cell_fits : Float → Bool
cell_fits cell = between (double 1 ⊘ double 64) (double 8) cell

-- 9: a setting is at place 0
abbrev pub cell_settings_fit : ℕ → Float → Bool
cell_settings_fit period cell = period_fits period && cell_fits cell

abbrev pub setting_usable : ℕ → Float → Check
setting_usable period cell = record { places = 1; test = λ _. cell_settings_fit period cell; refusal = Sample }

-- 11: 1 to 4 for v, w, F, J
abbrev pub values_fit : RowValues → Check
values_fit values =
    record {
      places = 4;
      test = λ k. slice_index_or
          (value_fits 65_536 values.v
          ∷ value_fits 65_536 values.w
          ∷ value_fits 1_000_000 values.capacity
          ∷ value_fits 4_000_000 values.jam
          ∷ [])
          k true;
      refusal = λ k. RowValue (k + 1);
    }

-- what is asked of a row
abbrev pub making_checks : Diagram → ℕ → Float → List Check
making_checks diagram period cell = setting_usable period cell ∷ values_fit (row_values diagram period cell) ∷ []

-- the refusal, or what was asked for where there is none
abbrev pub refused_or : {A : Type 0} → Answer → A → Result A Refusal
refused_or (Ok done) asked = Ok asked
refused_or (Err refusal) asked = Err refusal

abbrev pub row_as : Answer → RowValues → Result RowNumbers Refusal
row_as a values = refused_or a (row_numbers values)

abbrev pub row_made : Diagram → ℕ → Float → Result RowNumbers Refusal
row_made diagram period cell = row_as (answer (making_checks diagram period cell)) (row_values diagram period cell)
