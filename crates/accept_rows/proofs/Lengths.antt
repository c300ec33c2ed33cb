-- What lists whose lengths fit say of them. Assumes nothing.
use Prim.Native.Nat.{ℕ, ◌≤◌}
use mathlib.Core.Path.{◌≡◌}
use mathlib.Core.Bool.{true}
use mathlib.Core.List.{List}
use borrow.Author.Tests.{eqb-true}
use lib.Dec.{eqb}
use lib.ListN.{length}
use Rattle.whole.proofs.Tests.{both_hold}
use Rattle.layout.specs.Layout.{cells, state_length, demand_length, table_length, MOST}
use Rattle.accept_ranges.proofs.Ranges.{Between, between}
use Rattle.accept_tables.specs.Tables.{table_length_fits}
use Rattle.accept_rows.specs.Acceptance.{state_lengths_fit, row_lengths_fit}
use Rattle.layout.specs.Corridor.{Corridor, cells_of}

-- the cells of a table whose length fits
pub cells_fit : (table : List ℕ) → table_length_fits table ≡ true → Between 1 MOST (cells table)
cells_fit table fit = between _ _ _ (both_hold (eqb (length table) (table_length (cells table))) _ fit).1

-- where the lengths fit together, the table's own does
pub table_length_lem : (c : Corridor) → state_lengths_fit c ≡ true → table_length_fits c.table ≡ true
table_length_lem c fit = (both_hold (table_length_fits c.table) _ fit).0

-- the lengths under a table whose row of lists fits
pub state_length_lem : (c : Corridor) → state_lengths_fit c ≡ true → length c.state ≡ state_length (cells_of c)
state_length_lem c fit = eqb-true _ _ (both_hold (table_length_fits c.table) _ fit).1

pub row_lengths : (c : Corridor) (demand : List ℕ) → row_lengths_fit c demand ≡ true → (length c.state ≡ state_length (cells_of c)) × (length demand ≡ demand_length (cells_of c))
row_lengths c demand fit =
    let both = both_hold (state_lengths_fit c) _ fit in (state_length_lem c both.0, eqb-true _ _ both.1)

-- an accepted table has at most 512 cells
pub cells_most : (c : Corridor) → state_lengths_fit c ≡ true → cells_of c ≤ 512
cells_most c fits = (cells_fit c.table (table_length_lem c fits)).most
