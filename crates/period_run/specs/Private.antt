-- Cited by private contracts and proofs alone: no public promise rests on this file.
-- What the rows of a run leave, and what they ask for.
use Rattle.std.specs.Prelude.{ℕ, ◌≡◌, true, List}
use Rattle.refusals.specs.Checks.{accepted, answer}
use Rattle.layout.specs.Corridor.{Corridor, cells_of}
use Rattle.accept_rows.specs.Acceptance.{state_lengths_fit, state_numbers}
use Rattle.period.specs.Sharing.{Sharing}
use Rattle.period_run.specs.declared.Ran.{Ran}
use Rattle.period_run.specs.Run.{run_lists_fit, corridor_after_periods, sheet_after_periods, completed, rows_answer}

-- the lists of a run that has passed 1 to 5
pub record Runnable (c : Corridor) (demand sheet : List ℕ) : Type 0 where
  pub lists : run_lists_fit (cells_of c) demand sheet ≡ true
  pub fits : state_lengths_fit c ≡ true
  pub state_accepted : answer (state_numbers c) ≡ accepted

-- what its rows answer and leave
pub record RowsDone (way : Sharing) (c : Corridor) (demand sheet : List ℕ) (ran : Ran) (state_left sheet_left : List ℕ) : Type 0 where
  pub periods : ran.periods ≡ completed way c demand
  pub answered : ran.answer ≡ rows_answer way c demand
  pub leaves_state : state_left ≡ (corridor_after_periods way c demand (completed way c demand)).state
  pub leaves_sheet : sheet_left ≡ sheet_after_periods way c demand sheet (completed way c demand)
