-- A state on its way, cell by cell. Assumes nothing.
use Prim.Native.Nat.{ℕ, ◌<◌}
use mathlib.Core.Path.{◌≡◌, refl, ap}
use native.Mathlib.Omega.{arith}
use mathlib.Core.List.{List}
use lib.ListN.{length}
use Rattle.layout.specs.declared.Cell.{Cell}
use Rattle.layout.specs.Layout.{state_length, entry_queue, cell_at, cell_numbers, state_columns, with_cell}
use Rattle.layout.proofs.Laid.{Laying, laying_cell, stored_entry}

module _ (n : ℕ) (state : List ℕ) where
  -- as it stands
  pub as_it_stands : {Meant : ℕ → Type 0} → length state ≡ state_length n → Laying Meant n state (state_columns (cell_at n state))
  as_it_stands len =
      record {
        len = omega (arith, len);
        filled = (λ k below meant. refl, (λ k below meant. refl, (λ k below meant. refl, tt)));
      }

  -- a cell that is meant
  pub cell_is : {Meant : ℕ → Type 0} (cells : ℕ → Cell) → Laying Meant n state (state_columns cells) → (i : ℕ) → i < n → Meant i → cell_at n state i ≡ cells i
  cell_is cells so i h meant =
      λ j. record { count = so.filled.0 i h meant j; queue = so.filled.1.0 i h meant j; mode = so.filled.1.1.0 i h meant j }

  -- a cell is stored: those that were meant are still, and it is too where it is its own
  pub cell_stored : {Before After : ℕ → Type 0} {i : ℕ} {cell : Cell} (cells : ℕ → Cell) → Laying Before n state (state_columns cells) → i < n → ((k : ℕ) → After k → (k ≡ i → ⊥) → Before k) → (After i → cell ≡ cells i) → Laying After n (with_cell n state i cell) (state_columns cells)
  unfolding with_cell
  cell_stored cells so h other own = laying_cell n state (state_columns cells) so h refl other (λ meant. ap cell_numbers (own meant))

  pub entry_stays : (i : ℕ) (cell : Cell) → entry_queue (with_cell n state i cell) ≡ entry_queue state
  unfolding with_cell
  entry_stays i cell = stored_entry n i (cell_numbers cell) state
