-- What each exported function answers, and what each lent list then holds: as the promise of the function that it calls says.
use Rattle.std.specs.Prelude.{ℕ, ◌≡◌, Bool, ◌&&◌, List, [], ◌∷◌, eqb, Float, length, Err}
use Rattle.whole.specs.Search.{pick}
use Rattle.refusals.specs.declared.Refusal.TheVariants.{Length}
use Rattle.refusals.specs.Checks.{Answer, Check, answer, when_accepted}
use Rattle.layout.specs.Corridor.{Corridor}
use Rattle.period.specs.Sharing.{Sharing}
use Rattle.period.specs.Period.{period_checks, PeriodDone}
use Rattle.period_run.specs.Run.{periods_run, run_answer, RunDone}
use Rattle.recut_checks.specs.Change.{ChangeDone}
use Rattle.recut.specs.Recut.{new_state, recut_checks}
use Rattle.join.specs.Join.{joined_state, join_checks}
use Rattle.calibrate_fit.specs.declared.Settings.{Settings}
use Rattle.calibrate_rows.specs.declared.Diagram.{Diagram}
use Rattle.calibrate_rows.specs.declared.RowNumbers.{RowNumbers}
use Rattle.calibrate_rows.specs.RowNumbers.{row_numbers}
use Rattle.calibrate_fit.specs.Calibration.{calibration_checks, fitted_diagram, fitted_values}
use Rattle.figwimple.specs.Words.{word_of}

pub record PeriodCalled (way : Sharing) (c : Corridor) (demand sheet : List ℕ) (word : ℕ) (state_left sheet_left : List ℕ) : Type 0 where
  pub answered : word ≡ word_of 0 (answer (period_checks c demand sheet))
  pub leaves : PeriodDone way c demand sheet (answer (period_checks c demand sheet)) state_left sheet_left

pub record RunCalled (way : Sharing) (c : Corridor) (demand sheet : List ℕ) (word : ℕ) (state_left sheet_left : List ℕ) : Type 0 where
  pub answered : word ≡ word_of (periods_run way c demand sheet) (run_answer way c demand sheet)
  pub leaves : RunDone way c demand sheet (record { periods = periods_run way c demand sheet; answer = run_answer way c demand sheet }) state_left sheet_left

pub record ChangeCalled (checks : List Check) (made list : List ℕ) (word : ℕ) (left : List ℕ) : Type 0 where
  pub answered : word ≡ word_of 0 (answer checks)
  pub leaves : ChangeDone checks made list (answer checks) left

abbrev pub RecutCalled : Corridor → List ℕ → List ℕ → List ℕ → ℕ → List ℕ → Type 0
RecutCalled old pieces new list = ChangeCalled (recut_checks old pieces new list) (new_state old pieces new) list

abbrev pub JoinCalled : Corridor → List ℕ → List ℕ → List ℕ → ℕ → List ℕ → Type 0
JoinCalled old groups new list = ChangeCalled (join_checks old groups new list) (joined_state old groups new) list

abbrev pub settings_of : Float → ℕ → ℕ → Float → ℕ → ℕ → Settings
settings_of g lanes t l start end = record { g = g; lanes = lanes; period = t; cell = l; start = start; end = end }

-- the five doubles of a diagram, the four numbers of a row, and the lists that are lent for them
abbrev pub five_of : Diagram → List Float
five_of d = d.speed ∷ d.capacity ∷ d.critical ∷ d.wave ∷ d.jam ∷ []

abbrev pub four_of : RowNumbers → List ℕ
four_of numbers = numbers.v ∷ numbers.w ∷ numbers.capacity ∷ numbers.jam ∷ []

abbrev pub results_fit : List Float → List ℕ → Bool
results_fit diagram row = eqb (length diagram) 5 && eqb (length row) 4

-- number 1, the lowest, where the lists of results have not their lengths
abbrev pub with_lists : Bool → Answer → Answer
with_lists fit answered = pick fit answered (Err Length)

-- 1, 9, 10 and 11 of a calibration and of its lists
abbrev pub calibrate_answer : Settings → List Float → List Float → List Float → List ℕ → Answer
calibrate_answer settings flow occupancy diagram row =
    with_lists (results_fit diagram row) (answer (calibration_checks settings flow occupancy))

pub record CalibrateCalled (settings : Settings) (flow occupancy diagram : List Float) (row : List ℕ) (word : ℕ) (diagram_left : List Float) (row_left : List ℕ) : Type 0 where
  pub answered : word ≡ word_of 0 (calibrate_answer settings flow occupancy diagram row)
  pub leaves_diagram : diagram_left ≡ when_accepted (calibrate_answer settings flow occupancy diagram row) (five_of (fitted_diagram settings flow occupancy)) diagram
  pub leaves_row : row_left ≡ when_accepted (calibrate_answer settings flow occupancy diagram row) (four_of (row_numbers (fitted_values settings flow occupancy))) row
