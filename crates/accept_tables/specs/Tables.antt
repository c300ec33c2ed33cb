-- Rules, "Units and the cell row" and "Refusal numbers" 1 to 4: what is asked of a table, and of two.
use Rattle.std.specs.Prelude.{ℕ, ◌+◌, Bool, not, ◌&&◌, ◌||◌, List, [], ◌∷◌, eqb, length}
use Rattle.whole.specs.Search.{within, every}
use Rattle.refusals.specs.declared.Refusal.TheVariants.{TableNumber, RoomShares, RampAgain}
use Rattle.layout.specs.Layout.{MOST, cells, table_length, row_at, ramp_positions, ramp_cell, ramp_at}
use Rattle.refusals.specs.Checks.{Check, lengths}
use Rattle.accept_ranges.specs.Ranges.{row_in_range, room_shared}

-- 1: a table has 1 to 512 whole rows
abbrev pub table_length_fits : List ℕ → Bool
table_length_fits table = eqb (length table) (table_length (cells table)) && within 1 MOST (cells table)

-- 4: a ramp number stands at no earlier position along the road; 0 is no ramp
abbrev pub ramp_is_new : List ℕ → ℕ → Bool
ramp_is_new table k = eqb (ramp_at table k) 0 || every k (λ j. not (eqb (ramp_at table j) (ramp_at table k)))

-- The checks, by number. A place is a cell, counted from 1.

abbrev pub rows_in_range : List ℕ → Check
rows_in_range table = record { places = cells table; test = λ i. row_in_range (row_at table i); refusal = λ i. TableNumber (i + 1) }

abbrev pub rooms_shared : List ℕ → Check
rooms_shared table = record { places = cells table; test = λ i. room_shared (row_at table i); refusal = λ i. RoomShares (i + 1) }

abbrev pub ramps_once : List ℕ → Check
ramps_once table = record { places = ramp_positions (cells table); test = ramp_is_new table; refusal = λ k. RampAgain (ramp_cell k + 1) }

-- What is asked of a table (1 to 4)

abbrev pub table_numbers : List ℕ → List Check
table_numbers table = rows_in_range table ∷ rooms_shared table ∷ ramps_once table ∷ []

abbrev pub table_checks : List ℕ → List Check
table_checks table = lengths (table_length_fits table) ∷ table_numbers table

-- numbers 2 to 4 of two tables: of one number, the first table's come before the second's
abbrev pub both_tables : List ℕ → List ℕ → List Check
both_tables first second =
    rows_in_range first ∷ rows_in_range second ∷ rooms_shared first ∷ rooms_shared second ∷ ramps_once first ∷ ramps_once second ∷ []

abbrev pub both_tables_checks : List ℕ → List ℕ → List Check
both_tables_checks first second = lengths (table_length_fits first && table_length_fits second) ∷ both_tables first second
