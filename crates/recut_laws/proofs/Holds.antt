-- What an accepted change is known to start from is enough for it: where it fits, it is accepted; and when a list is a joined state. Assumes nothing.
use Prim.Native.Nat.{ℕ, zero, suc, ◌+◌, ◌<◌}
use mathlib.Core.Path.{◌≡◌, refl, ◌∙◌}
use mathlib.Core.Bool.{true}
use mathlib.Core.List.{List, [], ◌∷◌, ◌++◌}
use native.Mathlib.Omega.{arith}
use borrow.Author.Tests.{eq-eqb, ne_eqb}
use lib.ListN.{length}
use Rattle.whole.proofs.Search.{Passes, every_passes}
use Rattle.refusals.specs.declared.Refusal.{Refusal}
use Rattle.refusals.specs.Checks.{accepted, answer}
use Rattle.refusals.proofs.Answers.{accepted_passes, passes_accepted, accepted_both, both_accepted, lengths_passed}
use Rattle.layout.specs.Layout.{cells, row_at, state_length, entry_queue, count_at, queue_at, last_mode_at, state_columns, state_of}
use Rattle.layout.specs.Corridor.{Corridor, entry_queue_of}
use Rattle.layout.proofs.Laid.{laying_ends}
use Rattle.accept_tables.specs.Tables.{table_numbers, rows_in_range, rooms_shared, ramps_once, both_tables}
use Rattle.accept_rows.specs.Acceptance.{state_in_range}
use Rattle.recut_checks.specs.Pieces.{piece_count, first_piece, no_other_ramp, pieces_fit, cell_has_pieces, pieces_hold, pieces_number}
use Rattle.recut_checks.specs.Change.{change_checks, with_pieces}
use Rattle.recut_checks.proofs.Pieced.{CellPieces, Pieced}
use Rattle.recut_checks.proofs.Accepted.{Fits}
use Rattle.join.specs.Join.{joined_cell, joined_state}

-- pieces that are known to be those of the whole cells are found to be
module _ (whole pieces parts : List ℕ) where
  cell_holds : (i : ℕ) → CellPieces whole pieces parts i → cell_has_pieces whole pieces parts i ≡ true
  unfolding pieces_fit
  cell_holds i cell =
      let count = piece_count pieces i in
      let first = first_piece pieces i in
      let jams = eq-eqb _ _ cell.jams in
      let some = ne_eqb count 0 (λ none. omega (arith, cell.some)) in
      rw (some, jams, eq-eqb _ _ cell.on, eq-eqb _ _ cell.c, eq-eqb _ _ cell.off, eq-eqb _ _ cell.b)
      (every_passes count (λ k. no_other_ramp count k (row_at parts (first + k))) cell.no_other)

  pub pieced_holds : Pieced whole pieces parts → Passes (cells whole + 1) (pieces_hold whole pieces parts)
  pieced_holds known zero h = eq-eqb _ _ known.sums
  pieced_holds known (suc i) h = cell_holds i (known.each i (omega arith))

-- two tables that are accepted, each by itself, are accepted together
both_tables_lem : (first second : List ℕ) → answer (table_numbers first) ≡ accepted → answer (table_numbers second) ≡ accepted
    → answer (both_tables first second) ≡ accepted
both_tables_lem first second e e' =
    let rows = accepted_passes (rows_in_range first) _ e in
    let rows' = accepted_passes (rows_in_range second) _ e' in
    let rooms = accepted_passes (rooms_shared first) _ rows.1 in
    let rooms' = accepted_passes (rooms_shared second) _ rows'.1 in
    let ramps = accepted_passes (ramps_once first) _ rooms.1 in
    let ramps' = accepted_passes (ramps_once second) _ rooms'.1 in
    passes_accepted (rows_in_range first) _ rows.0
    (passes_accepted (rows_in_range second) _ rows'.0
    (passes_accepted (rooms_shared first) _ rooms.0
    (passes_accepted (rooms_shared second) _ rooms'.0
    (passes_accepted (ramps_once first) _ ramps.0 (passes_accepted (ramps_once second) _ ramps'.0 refl)))))

-- the other way round of `fits`
pub what_fits_is_accepted : (give : ℕ → Refusal) (old : Corridor) (pieces new list whole parts : List ℕ) → Fits old pieces new whole parts
    → length list ≡ state_length (cells new) → answer (with_pieces give old pieces new list whole parts) ≡ accepted
what_fits_is_accepted give old pieces new list whole parts known len =
    let change = known.change in
    let state = accepted_both (table_numbers old.table) (state_in_range old ∷ []) change.state_passes in
    let tables = both_tables_lem old.table new state.0 change.new_numbers in
    both_accepted (change_checks old pieces (cells whole) new list) (pieces_number give whole pieces parts ∷ [])
    (lengths_passed (both_tables old.table new ++ (state_in_range old ∷ []))
    (rw (change.old_length, change.new_length, eq-eqb _ _ change.state_len, eq-eqb _ _ known.counts, eq-eqb _ _ len))
    ∙ both_accepted (both_tables old.table new) (state_in_range old ∷ []) tables state.1)
    (passes_accepted (pieces_number give whole pieces parts) accepted (pieced_holds whole pieces parts known.pieced) refl)

-- a list of the length with that entry queue, those counts, those queues and those modes is the joined state
module _ (old : Corridor) (groups new list : List ℕ) where
  pub is_joined : length list ≡ state_length (cells new) → entry_queue list ≡ entry_queue_of old
      → ((j : ℕ) → j < cells new → count_at list j ≡ (joined_cell old groups j).count)
      → ((j : ℕ) → j < cells new → queue_at (cells new) list j ≡ (joined_cell old groups j).queue)
      → ((j : ℕ) → j < cells new → last_mode_at (cells new) list j ≡ (joined_cell old groups j).mode)
      → list ≡ joined_state old groups new
  unfolding state_of
  is_joined len entry count queue mode =
      laying_ends (cells new) list (state_columns (joined_cell old groups)) {Meant = λ _. Unit}
      (record { len = omega (arith, len); filled = (λ j h _. count j h, (λ j h _. queue j h, (λ j h _. mode j h, tt))) })
      (λ _ _. tt) entry
