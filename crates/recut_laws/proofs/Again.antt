-- Cut, then join the same pieces. Assumes nothing.
use Prim.Native.Nat.{ℕ, zero, suc, ◌+◌, ◌-◌, ◌≤◌, ◌<◌}
use mathlib.Core.Path.{◌≡◌, refl, sym, ap, ◌∙◌}
use mathlib.Core.List.{List}
use native.Mathlib.Nat.{add-zero}
use native.Mathlib.Numerals.{add-one}
use native.Mathlib.Omega.{arith}
use lib.ListN.{length}
use Rattle.refusals.specs.declared.Refusal.TheVariants.{Pieces, Groups}
use Rattle.refusals.specs.Checks.{Answer, accepted, answer, when_accepted}
use Rattle.refusals.proofs.Answers.{accepted_passes}
use Rattle.layout.specs.Layout.{cells, state_length}
use Rattle.layout.specs.Corridor.{Corridor, cells_of, count_of, queue_of, last_mode_of}
use Rattle.accept_tables.specs.Tables.{table_checks}
use Rattle.accept_tables.proofs.Accepted.{table_fits}
use Rattle.accept_rows.proofs.Lengths.{cells_fit}
use Rattle.accept_rows.proofs.Accepted.{state_fits_lem}
use Rattle.recut_checks.specs.Pieces.{piece_count, first_piece}
use Rattle.recut_checks.proofs.Pieced.{Pieced}
use Rattle.recut_checks.proofs.Accepted.{fits}
use Rattle.recut.specs.declared.Piece.{Piece}
use Rattle.recut.specs.Pieces.{piece_at}
use Rattle.recut.specs.Recut.{new_corridor, recut_checks}
use Rattle.recut.proofs.Walk.{Last}
use Rattle.recut.proofs.Facts.{CutFits, the_piece}
use Rattle.join.specs.Join.{group_vehicles, joined_state, join_checks, JoinDone}
use Rattle.join.proofs.Facts.{JoinFits}
use Rattle.recut_laws.specs.Joins.{KeepsCells}
use Rattle.recut_laws.proofs.Sums.{place_inside, one_place}
use Rattle.recut_laws.proofs.Kept.{first_queue, last_takes_the_mode, new_entry, new_length, shared, shared_none, shared_more, shared_all, new_state_is_accepted}
use Rattle.recut_laws.proofs.Holds.{what_fits_is_accepted, is_joined}

-- a table keeps its own cells
pub keeps_itself : (table : List ℕ) → KeepsCells table table
keeps_itself table =
    record { many = refl; jam = λ i h. refl; on = λ i h. refl; c = λ i h. refl; off = λ i h. refl; b = λ i h. refl }

-- pieces of a table's cells are pieces of those that keep them
still_pieced : {old table pieces parts : List ℕ} → KeepsCells old table → Pieced old pieces parts → Pieced table pieces parts
still_pieced {pieces = pieces} keeps known =
    record {
      sums = ap (first_piece pieces) keeps.many ∙ known.sums;
      each = λ i h.
          let inside = rw keeps.many at h in
          let cell = known.each i inside in
          record {
            some = cell.some;
            jams = cell.jams ∙ sym (keeps.jam i inside);
            on = cell.on ∙ sym (keeps.on i inside);
            c = cell.c ∙ sym (keeps.c i inside);
            off = cell.off ∙ sym (keeps.off i inside);
            b = cell.b ∙ sym (keeps.b i inside);
            no_other = cell.no_other;
          };
    }

module _ (old : Corridor) (pieces new : List ℕ) (known : CutFits old pieces new) where
  abbrev piece : ℕ → Piece
  piece = piece_at pieces new

  abbrev cut : Corridor
  cut = new_corridor old pieces new

  -- what the cut left fits a join under a table that keeps the cells
  module _ (table : List ℕ) (table_accepted : answer (table_checks table) ≡ accepted) (keeps : KeepsCells old.table table) where
    joins_again : JoinFits (new_corridor old pieces new) pieces table
    joins_again =
        let change = known.change in
        let own = accepted_passes _ _ table_accepted in
        let state = new_state_is_accepted old pieces new known in
        record {
          change =
              record {
                old_length = change.new_length;
                new_length = own.0 0 (omega arith);
                new_numbers = own.1;
                state_passes = state;
                old_cells = change.new_cells;
                new_cells = cells_fit table (own.0 0 (omega arith));
                state_len = new_length old pieces new known;
                state_fits_it = state_fits_lem cut state;
                old_fits = change.new_fits;
                new_fits = table_fits table own.1;
              };
          counts = known.counts ∙ sym keeps.many;
          pieced = still_pieced keeps known.pieced;
        }

  -- the piece of that number of a cell
  module _ (i k : ℕ) (h : i < cells_of old) (below : k < piece_count pieces i) where
    abbrev place : ℕ
    place = first_piece pieces i + k

    inside : first_piece pieces i + k < cells new
    inside = place_inside (piece_count pieces) known.pieced.sums h below

    is_piece : (i ≡ (piece place).cell) × (k ≡ (piece place).number)
    is_piece =
        let on = the_piece old pieces new known place inside in
        one_place (piece_count pieces) on.at below on.number_is

  -- a cell's first pieces have the vehicles that are shared out to them
  adds_up : (i : ℕ) → i < cells_of old → (k : ℕ) → k ≤ piece_count pieces i
      → group_vehicles cut (first_piece pieces i) k ≡ shared old pieces new known i k
  adds_up i h zero below = sym (shared_none old pieces new known i)
  adds_up i h (suc k) below =
      let is = is_piece i k h below in
      let more = rw (← is.0, ← is.1, add-one k) at (shared_more old pieces new known (first_piece pieces i + k) (inside i k h below)) in
      ap (λ s. s + count_of cut (first_piece pieces i + k)) (adds_up i h k (omega arith)) ∙ more

  -- all its pieces have its vehicles, the first one its queue and the last one its mode
  module _ (i : ℕ) (h : i < cells_of old) where
    some : 0 < piece_count pieces i
    some = (known.pieced.each i h).some

    abbrev last : ℕ
    last = first_piece pieces i + (piece_count pieces i - 1)

    last_inside : first_piece pieces i + (piece_count pieces i - 1) < cells new
    last_inside = inside i (piece_count pieces i - 1) h (omega (arith, some))

    its_last : (i ≡ (piece last).cell) × (piece_count pieces i - 1 ≡ (piece last).number)
    its_last = is_piece i (piece_count pieces i - 1) h (omega (arith, some))

    is_last : Last pieces (piece last)
    is_last = rw (← its_last.0, ← its_last.1) (omega (arith, some))

    all_its_vehicles : group_vehicles cut (first_piece pieces i) (piece_count pieces i) ≡ count_of old i
    all_its_vehicles =
        let count = piece_count pieces i in
        let all : count - 1 + 1 ≡ count = omega (arith, some) in
        adds_up i h count (omega arith) ∙ rw (← its_last.0, ← its_last.1, all) at (shared_all old pieces new known last last_inside is_last)

    its_queue : queue_of cut (first_piece pieces i) ≡ queue_of old i
    its_queue =
        let is = rw add-zero at (is_piece i 0 h some) in
        let at = rw add-zero at (inside i 0 h some) in
        first_queue old pieces new known (first_piece pieces i) at (sym is.1) ∙ ap (queue_of old) (sym is.0)

    its_mode : last_mode_of cut last ≡ last_mode_of old i
    its_mode = last_takes_the_mode old pieces new known last last_inside is_last ∙ ap (last_mode_of old) (sym its_last.0)

  gives_back : (table : List ℕ) → cells table ≡ cells_of old → joined_state (new_corridor old pieces new) pieces table ≡ old.state
  gives_back table many =
      sym
      (is_joined cut pieces table old.state (rw many known.change.state_len) (sym (new_entry old pieces new known))
      (λ i h. sym (all_its_vehicles i (rw many at h)))
      (λ i h. rw many (sym (its_queue i (rw many at h))))
      (λ i h. rw many (sym (its_mode i (rw many at h)))))

-- the cut state, joined by the same pieces, is accepted under any accepted table that keeps the cells
pub cut_then_join_is_accepted : (old : Corridor) (pieces new list table back : List ℕ)
    → answer (recut_checks old pieces new list) ≡ accepted → answer (table_checks table) ≡ accepted → KeepsCells old.table table
    → length back ≡ state_length (cells table) → answer (join_checks (new_corridor old pieces new) pieces table back) ≡ accepted
cut_then_join_is_accepted old pieces new list table back e accepted keeps len =
    what_fits_is_accepted Groups (new_corridor old pieces new) pieces table back table new
    (joins_again old pieces new (fits Pieces old pieces new list old.table new e) table accepted keeps)
    len

-- and gives back the state
pub cut_then_join_gives_back : (old : Corridor) (pieces new list table : List ℕ) → answer (recut_checks old pieces new list) ≡ accepted
    → cells table ≡ cells_of old → joined_state (new_corridor old pieces new) pieces table ≡ old.state
cut_then_join_gives_back old pieces new list table e = gives_back old pieces new (fits Pieces old pieces new list old.table new e) table

-- so any join that keeps its promise answers Accepted and leaves the state that was cut
pub cut_then_join_leaves_the_state : (old : Corridor) (pieces new list table back : List ℕ)
    → answer (recut_checks old pieces new list) ≡ accepted → answer (table_checks table) ≡ accepted → KeepsCells old.table table
    → length back ≡ state_length (cells table) → (a : Answer) (left : List ℕ)
    → JoinDone (new_corridor old pieces new) pieces table back a left → (a ≡ accepted) × (left ≡ old.state)
cut_then_join_leaves_the_state old pieces new list table back e accepted keeps len a left done =
    let so = cut_then_join_is_accepted old pieces new list table back e accepted keeps len in
    let state = joined_state (new_corridor old pieces new) pieces table in
    let gives = cut_then_join_gives_back old pieces new list table e keeps.many in
    (done.answered ∙ so, done.leaves ∙ ap (λ answer. when_accepted answer state back) so ∙ gives)
