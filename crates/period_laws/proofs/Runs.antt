-- Where every dropped capacity is F, a run does not depend on the modes it starts from. Assumes nothing.
use Prim.Native.Nat.{ℕ, zero, suc, ◌+◌, ◌<◌}
use mathlib.Core.Path.{◌≡◌, refl, ap, sym, ◌∙◌}
use mathlib.Core.Bool.{Bool}
use mathlib.Core.List.{List}
use native.Mathlib.Omega.{arith}
use Rattle.whole.specs.Search.{first_failing}
use Rattle.whole.proofs.Search.{is_first, first_is}
use Rattle.refusals.specs.Checks.{answer, or_later}
use Rattle.layout.specs.Layout.{cells}
use Rattle.layout.specs.Corridor.{Corridor, corridor_of, cells_of}
use Rattle.accept_rows.specs.Acceptance.{queues_hold, demand_numbers}
use Rattle.period.specs.Sharing.{Sharing}
use Rattle.period.specs.Period.{sheet_of, corridor_after}
use Rattle.period_run.specs.Run.{rows, demand_row, is_accepted, corridor_after_periods, sheet_after_periods, row_answer, completed}
use Rattle.period_run.proofs.Rows.{table_stays}
use Rattle.period_laws.specs.Undropped.{Undropped, SameButModes, without_modes, after_without_drop}
use Rattle.period_laws.proofs.Undropped.{same_sheet_of, same_state_after, modes_do_not_matter, after_without_modes}

-- tests that agree below n fail first at one index
same_first : (n : ℕ) (test other : ℕ → Bool) → ((k : ℕ) → k < n → test k ≡ other k) → first_failing n test ≡ first_failing n other
same_first n test other agree =
    let first = is_first n test in
    first_is n other (first_failing n test)
    (record {
      reaches = first.reaches;
      before = λ k h. sym (agree k (omega (arith, first.reaches))) ∙ first.before k h;
      fails = λ h. sym (agree (first_failing n test) h) ∙ first.fails h;
    })

module _ (way : Sharing) (table : List ℕ) (one other : List ℕ) (undropped : Undropped table) (same : SameButModes (cells table) one other) where
  abbrev c : Corridor
  c = corridor_of table one

  abbrev d : Corridor
  d = corridor_of table other

  queues_hold_alike : (row : List ℕ) (k : ℕ) → k < cells table + 1 → (queues_hold c row).test k ≡ (queues_hold d row).test k
  queues_hold_alike row zero h = rw same.entry
  queues_hold_alike row (suc i) h = rw (same.queue i (omega arith))

  same_answer : (row : List ℕ) → answer (demand_numbers c row) ≡ answer (demand_numbers d row)
  unfolding or_later
  same_answer row = rw (same_first (cells table + 1) (queues_hold c row).test (queues_hold d row).test (queues_hold_alike row))

  module _ (demand : List ℕ) where
    -- from the first period on the corridor is the same, modes and all
    pub modes_at_the_start_do_not_matter : (k : ℕ) → corridor_after_periods way c demand (suc k) ≡ corridor_after_periods way d demand (suc k)
    unfolding corridor_after_periods
    modes_at_the_start_do_not_matter zero =
        ap (corridor_of table) (same_state_after way table one other (demand_row (cells table) demand 0) undropped same)
    modes_at_the_start_do_not_matter (suc k) =
        ap (λ now. corridor_after way now (demand_row (cells table) demand (suc k))) (modes_at_the_start_do_not_matter k)

    -- and so is the sheet, whatever the list came with
    pub same_sheets : (sheet sheet' : List ℕ) (k : ℕ) → sheet_after_periods way c demand sheet (suc k) ≡ sheet_after_periods way d demand sheet' (suc k)
    unfolding sheet_after_periods corridor_after_periods
    same_sheets sheet sheet' zero = same_sheet_of way table one other (demand_row (cells table) demand 0) undropped same
    same_sheets sheet sheet' (suc k) =
        ap (λ now. sheet_of way now (demand_row (cells table) demand (suc k))) (modes_at_the_start_do_not_matter k)

    same_row_answer : (k : ℕ) → row_answer way c demand k ≡ row_answer way d demand k
    unfolding corridor_after_periods
    same_row_answer zero = same_answer (demand_row (cells table) demand 0)
    same_row_answer (suc k) =
        ap (λ now. answer (demand_numbers now (demand_row (cells table) demand (suc k)))) (modes_at_the_start_do_not_matter k)

    -- as many periods are completed
    pub same_completed : completed way c demand ≡ completed way d demand
    same_completed =
        same_first (rows (cells table) demand) (λ k. is_accepted (row_answer way c demand k)) (λ k. is_accepted (row_answer way d demand k))
        (λ k h. ap is_accepted (same_row_answer k))

-- where every dropped capacity is F, a run is one of the rule without a drop: its corridor after each period, and the sheet of each
module _ (way : Sharing) (c : Corridor) (demand : List ℕ) (undropped : Undropped c.table) where
  still_undropped : (k : ℕ) → Undropped (corridor_after_periods way c demand k).table
  still_undropped k = rw (table_stays way c demand k) undropped

  pub run_without_drop : (k : ℕ) → corridor_after_periods way c demand k ≡ after_without_drop way c demand k
  unfolding corridor_after_periods after_without_drop
  run_without_drop zero = refl
  run_without_drop (suc k) =
      let row = demand_row (cells_of c) demand k in
      after_without_modes way (corridor_after_periods way c demand k) row (still_undropped k)
      ∙ ap (λ now. corridor_after way (without_modes now) row) (run_without_drop k)

  pub sheets_without_drop : (sheet : List ℕ) (k : ℕ)
      → sheet_after_periods way c demand sheet (suc k) ≡ sheet_of way (without_modes (after_without_drop way c demand k)) (demand_row (cells_of c) demand k)
  unfolding sheet_after_periods
  sheets_without_drop sheet k =
      let row = demand_row (cells_of c) demand k in
      (modes_do_not_matter way (corridor_after_periods way c demand k) row (still_undropped k)).0
      ∙ ap (λ now. sheet_of way (without_modes now) row) (run_without_drop k)
