-- Rules, "One period": a run of K demand rows end to end.
use Rattle.std.specs.Prelude.{ℕ, zero, suc, ◌*◌, ◌/◌, ◌%◌, ◌≡◌, Bool, true, false, ◌&&◌, List, ◌∷◌, leb, ltb, eqb, length, take, drop, Ok, Err}
use Rattle.whole.specs.Search.{pick, first_failing}
use Rattle.refusals.specs.Checks.{Answer, accepted, Check, answer, when_accepted, lengths}
use Rattle.layout.specs.Layout.{demand_length}
use Rattle.layout.specs.Sheet.{sheet_length}
use Rattle.layout.specs.Corridor.{Corridor, cells_of}
use Rattle.accept_rows.specs.Acceptance.{state_lengths_fit, state_numbers, demand_numbers}
use Rattle.period.specs.Sharing.{Sharing}
use Rattle.period.specs.Period.{sheet_of, corridor_after}
use Rattle.period_run.specs.declared.Ran.{Ran}

-- K, and the demand row of index k, of n cells
abbrev pub rows : ℕ → List ℕ → ℕ
rows n demand = length demand / demand_length n

abbrev pub demand_row : ℕ → List ℕ → ℕ → List ℕ
demand_row n demand k = take (demand_length n) (drop (k * demand_length n) demand)

-- K is 0 to 4,096, the rows stand end to end, and the sheet has its length
abbrev pub run_lists_fit : ℕ → List ℕ → List ℕ → Bool
run_lists_fit n demand sheet =
    eqb (length demand % demand_length n) 0 && leb (rows n demand) 4096 && eqb (length sheet) (sheet_length n)

-- numbers 1 to 5, checked first
abbrev pub run_checks : Corridor → List ℕ → List ℕ → List Check
run_checks c demand sheet = lengths (state_lengths_fit c && run_lists_fit (cells_of c) demand sheet) ∷ state_numbers c

abbrev pub is_accepted : Answer → Bool
is_accepted (Ok done) = true
is_accepted (Err refusal) = false

module _ (way : Sharing) (c : Corridor) (demand : List ℕ) where
  -- the corridor after the first k periods
  unfoldable pub corridor_after_periods : ℕ → Corridor
  corridor_after_periods zero = c
  corridor_after_periods (suc k) = corridor_after way (corridor_after_periods k) (demand_row (cells_of c) demand k)

  -- the last sheet written in the first k periods; before the first, what the list came with
  unfoldable pub sheet_after_periods : List ℕ → ℕ → List ℕ
  sheet_after_periods sheet zero = sheet
  sheet_after_periods sheet (suc k) = sheet_of way (corridor_after_periods k) (demand_row (cells_of c) demand k)

  -- 6 and 7 at the row of index k
  abbrev pub row_answer : ℕ → Answer
  row_answer k = answer (demand_numbers (corridor_after_periods k) (demand_row (cells_of c) demand k))

  -- the periods completed once 1 to 5 pass: K, or the number of rows before the first refused one
  abbrev pub completed : ℕ
  completed = first_failing (rows (cells_of c) demand) (λ k. is_accepted (row_answer k))

  -- the first refused row's refusal, if there is one
  abbrev pub rows_answer : Answer
  rows_answer = pick (ltb completed (rows (cells_of c) demand)) (row_answer completed) accepted

module _ (way : Sharing) (c : Corridor) (demand sheet : List ℕ) where
  -- the periods completed, 0 when 1 to 5 refuse
  abbrev pub periods_run : ℕ
  periods_run = when_accepted (answer (run_checks c demand sheet)) (completed way c demand) 0

  -- the refusal of 1 to 5, else of the first refused row
  abbrev pub run_answer : Answer
  run_answer = when_accepted (answer (run_checks c demand sheet)) (rows_answer way c demand) (answer (run_checks c demand sheet))

-- what a run answers and leaves
pub record RunDone (way : Sharing) (c : Corridor) (demand sheet : List ℕ) (ran : Ran) (state_left sheet_left : List ℕ) : Type 0 where
  pub periods : ran.periods ≡ periods_run way c demand sheet
  pub answered : ran.answer ≡ run_answer way c demand sheet
  pub leaves_state : state_left ≡ (corridor_after_periods way c demand (periods_run way c demand sheet)).state
  pub leaves_sheet : sheet_left ≡ sheet_after_periods way c demand sheet (periods_run way c demand sheet)
