-- How a period ends: what it answers and leaves. Assumes nothing.
use Prim.Native.Nat.{ℕ}
use mathlib.Core.Path.{◌≡◌, sym, ◌∙◌}
use mathlib.Core.List.{List, ◌++◌}
use borrow.Author.Tests.{eq-eqb, ne_eqb}
use lib.ListN.{length}
use Rattle.std.specs.Prelude.{Err}
use Rattle.refusals.specs.declared.Refusal.{Refusal}
use Rattle.refusals.specs.declared.Refusal.TheVariants.{Length}
use Rattle.refusals.specs.Checks.{accepted, answer}
use Rattle.accept_rows.specs.Acceptance.{row_lengths_fit, state_numbers, demand_numbers, row_checks}
use Rattle.refusals.proofs.Answers.{length_fails, length_fits_too}
use Rattle.period.specs.Sharing.{Sharing}
use Rattle.period.specs.Period.{period_checks, PeriodDone, RowDone}
use Rattle.layout.specs.Sheet.{sheet_length}
use Rattle.layout.specs.Corridor.{Corridor, cells_of}

module _ (way : Sharing) (c : Corridor) (demand sheet : List ℕ) where
  refused : {refusal : Refusal} → Err refusal ≡ answer (period_checks c demand sheet) → PeriodDone way c demand sheet (Err refusal) c.state sheet
  refused e = record { answered = e; leaves_state = rw (← e); leaves_sheet = rw (← e) }

  -- a sheet of another length is refused
  pub sheet_refused : (length sheet ≡ sheet_length (cells_of c) → ⊥) → PeriodDone way c demand sheet (Err Length) c.state sheet
  sheet_refused other =
      refused (length_fails (state_numbers c ++ demand_numbers c demand) (row_lengths_fit c demand) (ne_eqb _ _ other))

  -- with a sheet of its length, the checks are those of the row
  checks_of_the_row : length sheet ≡ sheet_length (cells_of c) → answer (period_checks c demand sheet) ≡ answer (row_checks c demand)
  checks_of_the_row len = length_fits_too (state_numbers c ++ demand_numbers c demand) (row_lengths_fit c demand) (eq-eqb _ _ len)

  pub row_refused : {refusal : Refusal} → length sheet ≡ sheet_length (cells_of c) → Err refusal ≡ answer (row_checks c demand) → PeriodDone way c demand sheet (Err refusal) c.state sheet
  row_refused len e = refused (e ∙ sym (checks_of_the_row len))

  pub row_done : {state_left sheet_left : List ℕ} → length sheet ≡ sheet_length (cells_of c) → accepted ≡ answer (row_checks c demand) → RowDone way c demand state_left sheet_left → PeriodDone way c demand sheet accepted state_left sheet_left
  row_done len e done =
      let whole = e ∙ sym (checks_of_the_row len) in
      record { answered = whole; leaves_state = rw (← whole) done.leaves_state; leaves_sheet = rw (← whole) done.leaves_sheet }
