-- What stands where in a state, a demand row and a sheet that are laid out from their parts. Assumes nothing.
use Prim.Native.Nat.{ℕ, zero, suc, ◌≤◌, ◌<◌}
use mathlib.Core.Path.{◌≡◌, refl}
use native.Mathlib.Numerals.{one-add}
use native.Mathlib.Omega.{arith}
use lib.ListN.{length}
use Rattle.layout.specs.declared.Cell.{Cell}
use Rattle.layout.specs.declared.Demands.{Demands}
use Rattle.layout.specs.Layout.{state_length, entry_queue, count_at, queue_at, last_mode_at, state_columns, state_of, demand_length, entry_demand, on_demand_at, off_demand_at, demand_columns, demand_of}
use Rattle.layout.specs.Sheet.{sheet_length, flow_in, off_flow_in, on_flow_in, mode_in, sheet_columns, sheet_from}
use Rattle.layout.proofs.Laid.{laid_length, laid_filled}

module _ (n entry : ℕ) (cell : ℕ → Cell) where
  pub state_length_lem : length (state_of n entry cell) ≡ state_length n
  unfolding state_of
  state_length_lem = omega (arith, laid_length n entry (state_columns cell))

  pub state_entry : entry_queue (state_of n entry cell) ≡ entry
  unfolding state_of
  state_entry = refl

  pub state_count : (i : ℕ) → i < n → count_at (state_of n entry cell) i ≡ (cell i).count
  unfolding state_of
  state_count i h = (laid_filled n entry (state_columns cell)).0 i h tt

  pub state_queue : (i : ℕ) → i < n → queue_at n (state_of n entry cell) i ≡ (cell i).queue
  unfolding state_of
  state_queue i h = (laid_filled n entry (state_columns cell)).1.0 i h tt

  pub state_mode : (i : ℕ) → i < n → last_mode_at n (state_of n entry cell) i ≡ (cell i).mode
  unfolding state_of
  state_mode i h = (laid_filled n entry (state_columns cell)).1.1.0 i h tt

module _ (n entry : ℕ) (demands : ℕ → Demands) where
  pub demand_length_lem : length (demand_of n entry demands) ≡ demand_length n
  unfolding demand_of
  demand_length_lem = omega (arith, laid_length n entry (demand_columns demands))

  pub demand_entry : entry_demand (demand_of n entry demands) ≡ entry
  unfolding demand_of
  demand_entry = refl

  pub demand_on : (i : ℕ) → i < n → on_demand_at (demand_of n entry demands) i ≡ (demands i).on
  unfolding demand_of
  demand_on i h = (laid_filled n entry (demand_columns demands)).0 i h tt

  pub demand_off : (i : ℕ) → i < n → off_demand_at n (demand_of n entry demands) i ≡ (demands i).off
  unfolding demand_of
  demand_off i h = (laid_filled n entry (demand_columns demands)).1.0 i h tt

module _ (n : ℕ) (flow off on mode : ℕ → ℕ) where
  pub sheet_length_lem : length (sheet_from n flow off on mode) ≡ sheet_length n
  unfolding sheet_from
  sheet_length_lem = omega (arith, laid_length n (flow 0) (sheet_columns flow off on mode))

  pub sheet_flow : (p : ℕ) → p ≤ n → flow_in (sheet_from n flow off on mode) p ≡ flow p
  unfolding sheet_from
  sheet_flow zero h = refl
  sheet_flow (suc i) h = rw one-add at ((laid_filled n (flow 0) (sheet_columns flow off on mode)).0 i (omega arith) tt)

  pub sheet_off : (i : ℕ) → i < n → off_flow_in n (sheet_from n flow off on mode) i ≡ off i
  unfolding sheet_from
  sheet_off i h = (laid_filled n (flow 0) (sheet_columns flow off on mode)).1.0 i h tt

  pub sheet_on : (i : ℕ) → i < n → on_flow_in n (sheet_from n flow off on mode) i ≡ on i
  unfolding sheet_from
  sheet_on i h = (laid_filled n (flow 0) (sheet_columns flow off on mode)).1.1.0 i h tt

  pub sheet_mode : (i : ℕ) → i < n → mode_in n (sheet_from n flow off on mode) i ≡ mode i
  unfolding sheet_from
  sheet_mode i h = (laid_filled n (flow 0) (sheet_columns flow off on mode)).1.1.1.0 i h tt
