-- One row of a run: under a table and a state that are accepted it is asked 6 and 7 alone. Assumes nothing.
use Prim.Native.Nat.{ℕ}
use mathlib.Core.Path.{◌≡◌, ap, ◌∙◌}
use mathlib.Core.Bool.{true, ◌&&◌, and-true}
use mathlib.Core.List.{List, ◌++◌}
use borrow.Author.Tests.{eq-eqb}
use lib.ListN.{length}
use Rattle.layout.specs.Layout.{state_length, demand_length}
use Rattle.refusals.specs.Checks.{accepted, answer}
use Rattle.accept_tables.specs.Tables.{table_length_fits}
use Rattle.accept_rows.specs.Acceptance.{state_lengths_fit, row_lengths_fit, state_numbers, demand_numbers, demand_checks}
use Rattle.refusals.proofs.Answers.{lengths_passed, both_accepted}
use Rattle.whole.proofs.Tests.{both_hold}
use Rattle.period.specs.Period.{RowAccepted}
use Rattle.layout.specs.Corridor.{Corridor, corridor_of, cells_of}

module _ (c : Corridor) (row : List ℕ) (fits : state_lengths_fit c ≡ true) (len : length row ≡ demand_length (cells_of c)) where
  pub row_fits : row_lengths_fit c row ≡ true
  row_fits = ap (λ b. state_lengths_fit c && b) (eq-eqb _ _ len) ∙ and-true _ ∙ fits

  pub row_alone : answer (demand_checks c row) ≡ answer (demand_numbers c row)
  row_alone = lengths_passed (demand_numbers c row) row_fits

  pub row_is_accepted : answer (state_numbers c) ≡ accepted → answer (demand_numbers c row) ≡ accepted → RowAccepted c row
  row_is_accepted before e =
      lengths_passed (state_numbers c ++ demand_numbers c row) row_fits
      ∙ both_accepted (state_numbers c) (demand_numbers c row) before e

-- a state of the same length fits as well
pub same_length_fits : (c : Corridor) (after : List ℕ) → state_lengths_fit c ≡ true → length after ≡ state_length (cells_of c) → state_lengths_fit (corridor_of c.table after) ≡ true
same_length_fits c after fits len =
    ap (λ b. table_length_fits c.table && b) (eq-eqb _ _ len) ∙ and-true _ ∙ (both_hold (table_length_fits c.table) _ fits).0
