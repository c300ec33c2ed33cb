-- Rules, "Re-cut", "Join" and "Refusal numbers" 1 to 5, 8 and 14: what is asked of a change from an old table and state to a new table, with a list
-- of counts and the list for the new state.
use Rattle.std.specs.Prelude.{ℕ, ◌≡◌, Bool, ◌&&◌, List, [], ◌∷◌, ◌++◌, eqb, length}
use Rattle.refusals.specs.declared.Refusal.{Refusal}
use Rattle.refusals.specs.declared.Refusal.TheVariants.{Pieces, Groups}
use Rattle.refusals.specs.Checks.{Answer, Check, answer, when_accepted, lengths}
use Rattle.layout.specs.Layout.{cells, state_length}
use Rattle.layout.specs.Corridor.{Corridor, cells_of}
use Rattle.accept_tables.specs.Tables.{table_length_fits, both_tables}
use Rattle.accept_rows.specs.Acceptance.{state_in_range}
use Rattle.recut_checks.specs.declared.Change.{Change}
use Rattle.recut_checks.specs.declared.Change.TheVariants.{Cut, Join}
use Rattle.recut_checks.specs.Pieces.{pieces_number}

-- a re-cut's whole cells are the old ones and their pieces the new ones; in a join it is the other way round
abbrev pub whole_of : Change → List ℕ → List ℕ → List ℕ
whole_of Cut old new = old
whole_of Join old new = new

abbrev pub parts_of : Change → List ℕ → List ℕ → List ℕ
parts_of Cut old new = new
parts_of Join old new = old

-- 8 of a re-cut and 14 of a join
abbrev pub refusal_of : Change → ℕ → Refusal
refusal_of Cut = Pieces
refusal_of Join = Groups

-- 1: every list has its length, with so many counts
abbrev pub change_lists_fit : Corridor → List ℕ → ℕ → List ℕ → List ℕ → Bool
change_lists_fit old counts many new list =
    eqb (length old.state) (state_length (cells_of old)) && eqb (length counts) many && eqb (length list) (state_length (cells new))

-- 1 to 5: of one number, the old table's come before the new one's
abbrev pub change_checks : Corridor → List ℕ → ℕ → List ℕ → List ℕ → List Check
change_checks old counts many new list =
    lengths (table_length_fits old.table && table_length_fits new && change_lists_fit old counts many new list) ∷ both_tables old.table new ++ (state_in_range old ∷ [])

-- then the pieces, with a count for each whole cell
abbrev pub with_pieces : (ℕ → Refusal) → Corridor → List ℕ → List ℕ → List ℕ → List ℕ → List ℕ → List Check
with_pieces give old counts new list whole parts =
    change_checks old counts (cells whole) new list ++ (pieces_number give whole counts parts ∷ [])

abbrev pub checks_of : Change → Corridor → List ℕ → List ℕ → List ℕ → List Check
checks_of change old counts new list =
    with_pieces (refusal_of change) old counts new list (whole_of change old.table new) (parts_of change old.table new)

-- what it answers, and what it leaves in the list for the new state, which is made where it is accepted
pub record ChangeDone (checks : List Check) (made list : List ℕ) (a : Answer) (left : List ℕ) : Type 0 where
  pub answered : a ≡ answer checks
  pub leaves : left ≡ when_accepted (answer checks) made list
