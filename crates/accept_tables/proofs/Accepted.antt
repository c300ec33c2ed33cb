-- What an accepted table says of each cell. Assumes nothing.
use Prim.Native.Nat.{ℕ, ◌+◌, ◌≤◌, ◌<◌}
use mathlib.Core.Path.{◌≡◌}
use mathlib.Core.List.{List}
use borrow.Author.Tests.{leb-true}
use Rattle.whole.specs.Share.{ONE}
use Rattle.layout.specs.Layout.{cells, row_at}
use Rattle.refusals.specs.Checks.{accepted, answer}
use Rattle.accept_tables.specs.Tables.{table_numbers}
use Rattle.refusals.proofs.Answers.{accepted_passes}
use Rattle.accept_ranges.proofs.Ranges.{InRange, in_range}

pub record TableFits (table : List ℕ) : Type 0 where
  pub rows : (i : ℕ) → i < cells table → InRange (row_at table i)
  pub rooms : (i : ℕ) → i < cells table → (row_at table i).w + (row_at table i).x ≤ ONE

pub table_fits : (table : List ℕ) → answer (table_numbers table) ≡ accepted → TableFits table
table_fits table e =
    let rows = accepted_passes _ _ e in
    let rooms = accepted_passes _ _ rows.1 in
    record { rows = λ i h. in_range _ (rows.0 i h); rooms = λ i h. leb-true _ _ (rooms.0 i h) }
