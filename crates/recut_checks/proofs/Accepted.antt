-- What an accepted change from an old table to a new one is known to start from. Assumes nothing.
use Prim.Native.Nat.{ℕ}
use mathlib.Core.Path.{◌≡◌, refl}
use mathlib.Core.Bool.{true, ◌&&◌}
use mathlib.Core.List.{List, [], ◌∷◌}
use native.Mathlib.Omega.{arith}
use borrow.Author.Tests.{eqb-true}
use lib.Dec.{eqb}
use lib.ListN.{length}
use Rattle.whole.proofs.Search.{Passes}
use Rattle.whole.proofs.Tests.{both_hold}
use Rattle.refusals.specs.declared.Refusal.{Refusal}
use Rattle.refusals.specs.Checks.{accepted, Check, answer}
use Rattle.refusals.proofs.Answers.{accepted_passes, passes_accepted, accepted_both, both_accepted}
use Rattle.layout.specs.Layout.{MOST, cells, state_length}
use Rattle.layout.specs.Corridor.{Corridor, cells_of}
use Rattle.accept_ranges.proofs.Ranges.{Between}
use Rattle.accept_tables.specs.Tables.{table_length_fits, table_numbers, rows_in_range, rooms_shared, ramps_once, both_tables}
use Rattle.accept_tables.proofs.Accepted.{TableFits, table_fits}
use Rattle.accept_rows.specs.Acceptance.{state_in_range, state_numbers}
use Rattle.accept_rows.proofs.Lengths.{cells_fit}
use Rattle.accept_rows.proofs.Accepted.{StateFits, state_fits_lem}
use Rattle.recut_checks.specs.Pieces.{pieces_number}
use Rattle.recut_checks.specs.Change.{change_lists_fit, change_checks, with_pieces}
use Rattle.recut_checks.proofs.Pieced.{Pieced, pieced}

-- the lengths of the lists under the two tables
pub record ListsFit (old : Corridor) (counts : List ℕ) (many : ℕ) (new list : List ℕ) : Type 0 where
  pub fit : change_lists_fit old counts many new list ≡ true
  pub state_len : length old.state ≡ state_length (cells_of old)
  pub counted : length counts ≡ many
  pub list_length : length list ≡ state_length (cells new)

pub lists_fit_lem : (old : Corridor) (counts : List ℕ) (many : ℕ) (new list : List ℕ) → change_lists_fit old counts many new list ≡ true → ListsFit old counts many new list
lists_fit_lem old counts many new list fit =
    let state = eqb (length old.state) (state_length (cells_of old)) in
    let last = both_hold (state && eqb (length counts) many) _ fit in
    let both = both_hold state _ last.0 in
    record { fit = fit; state_len = eqb-true _ _ both.0; counted = eqb-true _ _ both.1; list_length = eqb-true _ _ last.1 }

abbrev PassesAll : Check → Type 0
PassesAll check = Passes check.places check.test

-- where two tables are accepted together, each is by itself
each_table : (first second : List ℕ) → answer (both_tables first second) ≡ accepted → (answer (table_numbers first) ≡ accepted) × (answer (table_numbers second) ≡ accepted)
each_table first second e =
    let rows = accepted_passes _ _ e in
    let rows' = accepted_passes _ _ rows.1 in
    let rooms = accepted_passes _ _ rows'.1 in
    let rooms' = accepted_passes _ _ rooms.1 in
    let ramps = accepted_passes _ _ rooms'.1 in
    let ramps' = accepted_passes _ _ ramps.1 in
    (all first rows.0 rooms.0 ramps.0, all second rows'.0 rooms'.0 ramps'.0)
  where
    all : (table : List ℕ) → PassesAll (rows_in_range table) → PassesAll (rooms_shared table) → PassesAll (ramps_once table) → answer (table_numbers table) ≡ accepted
    all table rows rooms ramps =
        passes_accepted (rows_in_range table) _ rows (passes_accepted (rooms_shared table) _ rooms (passes_accepted (ramps_once table) _ ramps refl))

-- the old table and state and the new table, each accepted
pub record ChangeFits (old : Corridor) (new : List ℕ) : Type 0 where
  pub old_length : table_length_fits old.table ≡ true
  pub new_length : table_length_fits new ≡ true
  pub new_numbers : answer (table_numbers new) ≡ accepted
  pub state_passes : answer (state_numbers old) ≡ accepted
  pub old_cells : Between 1 MOST (cells_of old)
  pub new_cells : Between 1 MOST (cells new)
  pub state_len : length old.state ≡ state_length (cells_of old)
  pub state_fits_it : StateFits old
  pub old_fits : TableFits old.table
  pub new_fits : TableFits new

module _ (old : Corridor) (counts : List ℕ) (many : ℕ) (new list : List ℕ) (e : answer (change_checks old counts many new list) ≡ accepted) where
  -- the lengths, of which number 1 asks
  lengths_hold : (table_length_fits old.table ≡ true) × (table_length_fits new ≡ true) × ListsFit old counts many new list
  lengths_hold =
      let both = both_hold (table_length_fits old.table && table_length_fits new) _ ((accepted_passes _ _ e).0 0 (omega arith)) in
      let tables = both_hold (table_length_fits old.table) _ both.0 in
      (tables.0, tables.1, lists_fit_lem old counts many new list both.1)

  lists_accepted : ListsFit old counts many new list
  lists_accepted = lengths_hold.2

  change_fits : ChangeFits old new
  change_fits =
      let both = accepted_both (both_tables old.table new) (state_in_range old ∷ []) (accepted_passes _ _ e).1 in
      let tables = each_table old.table new both.0 in
      let state = both_accepted (table_numbers old.table) (state_in_range old ∷ []) tables.0 both.1 in
      record {
        old_length = lengths_hold.0;
        new_length = lengths_hold.1;
        new_numbers = tables.1;
        state_passes = state;
        old_cells = cells_fit old.table lengths_hold.0;
        new_cells = cells_fit new lengths_hold.1;
        state_len = lengths_hold.2.state_len;
        state_fits_it = state_fits_lem old state;
        old_fits = table_fits old.table tables.0;
        new_fits = table_fits new tables.1;
      }

-- what an accepted re-cut or join is known to start from
pub record Fits (old : Corridor) (pieces new whole parts : List ℕ) : Type 0 where
  pub change : ChangeFits old new
  pub counts : length pieces ≡ cells whole
  pub pieced : Pieced whole pieces parts

module _ (give : ℕ → Refusal) (old : Corridor) (pieces new list whole parts : List ℕ) (e : answer (with_pieces give old pieces new list whole parts) ≡ accepted) where
  each_part : (answer (change_checks old pieces (cells whole) new list) ≡ accepted) × (answer (pieces_number give whole pieces parts ∷ []) ≡ accepted)
  each_part = accepted_both (change_checks old pieces (cells whole) new list) (pieces_number give whole pieces parts ∷ []) e

  pub list_length : length list ≡ state_length (cells new)
  list_length = (lists_accepted old pieces (cells whole) new list each_part.0).list_length

  pub fits : Fits old pieces new whole parts
  fits =
      record {
        change = change_fits old pieces (cells whole) new list each_part.0;
        counts = (lists_accepted old pieces (cells whole) new list each_part.0).counted;
        pieced = pieced whole pieces parts (accepted_passes _ _ each_part.1).0;
      }
