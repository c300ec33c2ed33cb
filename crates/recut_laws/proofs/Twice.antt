-- Joining in two steps is joining in one. Assumes nothing.
use Prim.Native.Nat.{ℕ, zero, suc, ◌+◌, ◌-◌, ◌≤◌, ◌<◌}
use mathlib.Core.Path.{◌≡◌, refl, sym, ap, ◌∙◌}
use mathlib.Core.Logic.{◌⊎◌, inl, inr}
use mathlib.Core.Bool.{true, ◌||◌, or-true}
use mathlib.Core.List.{List}
use native.Mathlib.Omega.{arith}
use native.Mathlib.Decide.{ℕ_discrete}
use borrow.Author.Tests.{eq-eqb}
use lib.Dec.{eqb}
use lib.ListN.{length}
use Rattle.whole.specs.Sums.{sum}
use Rattle.whole.proofs.Sums.{sum_grows, sum_of_equal_terms}
use Rattle.whole.proofs.Tests.{both_same}
use Rattle.whole.proofs.Lists.{build-length, build_at}
use Rattle.refusals.specs.declared.Refusal.TheVariants.{Groups}
use Rattle.refusals.specs.Checks.{accepted, answer}
use Rattle.layout.specs.Layout.{cells, row_at, state_length}
use Rattle.layout.specs.Corridor.{Corridor, count_of, queue_of, last_mode_of}
use Rattle.recut_checks.specs.Pieces.{piece_count, first_piece, jam_before}
use Rattle.recut_checks.proofs.Pieced.{CellPieces, Pieced}
use Rattle.recut_checks.proofs.Accepted.{fits}
use Rattle.recut.specs.declared.Piece.{Piece}
use Rattle.recut.specs.Pieces.{piece_at}
use Rattle.recut.proofs.Walk.{On, Followed, Last, followed_or_last, piece_of}
use Rattle.join.specs.Join.{group_vehicles, joined_state, joined_corridor, join_checks}
use Rattle.join.proofs.Facts.{JoinFits}
use Rattle.recut_laws.specs.Joins.{added_up}
use Rattle.recut_laws.proofs.Sums.{sum-append, sum_in_groups, place_inside, one_place}
use Rattle.recut_laws.proofs.Ramps.{first_has_on_ramp, other_has_no_on_ramp, last_has_off_ramp, other_has_no_off_ramp}
use Rattle.recut_laws.proofs.Joined.{joined_count, joined_queue, joined_mode, joined_entry, joined_length}
use Rattle.recut_laws.proofs.Holds.{what_fits_is_accepted, is_joined}

-- parts that are the pieces of a middle table's cells, and these the pieces of the whole ones
module _ {whole second middle first parts : List ℕ} (counts : length second ≡ cells whole) (later : Pieced whole second middle)
    (earlier : Pieced middle first parts) where
  abbrev both : List ℕ
  both = added_up first second

  size_is : (j : ℕ) → j < cells whole → piece_count both j ≡ sum (piece_count second j) (λ k. piece_count first (first_piece second j + k))
  size_is j h = build_at (length second) _ j 0 (omega (arith, counts))

  -- a group of groups begins where the first of them does
  first_is : (j : ℕ) → j ≤ cells whole → first_piece both j ≡ first_piece first (first_piece second j)
  first_is zero h = refl
  first_is (suc j) h =
      omega (arith, first_is j (omega arith), size_is j h, sum-append (first_piece second j) (piece_count second j) (piece_count first))

  -- what its cells have is what its groups have
  sums_are : (f : ℕ → ℕ) (j : ℕ) → j < cells whole
      → sum (piece_count both j) (λ m. f (first_piece both j + m))
      ≡ sum (piece_count second j) (λ g. let cell = first_piece second j + g in sum (piece_count first cell) (λ k. f (first_piece first cell + k)))
  sums_are f j h =
      rw (size_is j h, first_is j (omega arith)) (sym (sum_in_groups (piece_count first) f (first_piece second j) (piece_count second j)))

  -- a group of the middle table
  module _ (j : ℕ) (h : j < cells whole) where
    group : CellPieces whole second middle j
    group = later.each j h

    inside : (k : ℕ) → k < piece_count second j → first_piece second j + k < cells middle
    inside k below = place_inside (piece_count second) later.sums h below

    -- the first and the last of the parts
    head : CellPieces middle first parts (first_piece second j)
    head = earlier.each (first_piece second j) (omega (arith, inside 0 group.some))

    abbrev end : ℕ
    end = first_piece second j + (piece_count second j - 1)

    tail : CellPieces middle first parts end
    tail = earlier.each end (inside (piece_count second j - 1) (omega (arith, group.some)))

    past_end : first_piece both (suc j) ≡ first_piece first (suc end)
    past_end =
        let same : first_piece second (suc j) ≡ suc end = omega (arith, group.some) in
        first_is (suc j) h ∙ ap (first_piece first) same

    some : 0 < piece_count both j
    some =
        omega
        (arith, past_end, first_is j (omega arith), head.some, sum_grows (suc (first_piece second j)) (suc end) (piece_count first) (omega arith))

    last_is : first_piece both j + (piece_count both j - 1) ≡ first_piece first end + (piece_count first end - 1)
    last_is = omega (arith, past_end, some, tail.some)

    jams_are : jam_before parts (first_piece both j) (piece_count both j) ≡ (row_at whole j).jam
    unfolding jam_before
    jams_are =
        sums_are (λ i. (row_at parts i).jam) j h
        ∙ sum_of_equal_terms (piece_count second j) _ _ (λ g below. (earlier.each (first_piece second j + g) (inside g below)).jams)
        ∙ group.jams

  -- a part that is no group's first has no on-ramp, and one that is no group's last no off-ramp
  module _ (i : ℕ) (h : i < cells parts) where
    abbrev piece : Piece
    piece = piece_at first parts i

    abbrev of : Piece
    of = piece_at second middle piece.cell

    on : On (cells middle) first parts i (piece_at first parts i)
    on = piece_of earlier i h

    on_of : On (cells whole) second middle piece.cell (piece_at second middle piece.cell)
    on_of = piece_of later piece.cell on.cell_is

    no_on_ramp : ((j : ℕ) → j < cells whole → i ≡ first_piece both j → ⊥) → (row_at parts i).on ≡ 0
    no_on_ramp never = by (ℕ_discrete piece.number 0)
      where
        at_start_lem : piece.number ≡ 0 → of.number ≡ 0 → i ≡ first_piece both of.cell
        at_start_lem e z =
            let start : piece.cell ≡ first_piece second of.cell = omega (arith, on_of.at) in
            let here : i ≡ first_piece first piece.cell = omega (arith, on.at) in
            here ∙ ap (first_piece first) start ∙ sym (first_is of.cell (omega (arith, on_of.cell_is)))

        by : Dec (piece.number ≡ 0) → (row_at parts i).on ≡ 0
        by (yes e) =
            (first_has_on_ramp middle first parts earlier i h e).0
            ∙ other_has_no_on_ramp whole second middle later piece.cell on.cell_is (λ z. never of.cell on_of.cell_is (at_start_lem e z))
        by (no other) = other_has_no_on_ramp middle first parts earlier i h other

    no_off_ramp : ((j : ℕ) → j < cells whole → suc i ≡ first_piece both (suc j) → ⊥) → (row_at parts i).off ≡ 0
    no_off_ramp never = by (followed_or_last on) (followed_or_last on_of)
      where
        at_end : Last first piece → Last second of → suc i ≡ first_piece both (suc of.cell)
        at_end e z =
            let end : suc piece.cell ≡ first_piece second (suc of.cell) = omega (arith, on_of.at) in
            let here : suc i ≡ first_piece first (suc piece.cell) = omega (arith, on.at) in
            here ∙ ap (first_piece first) end ∙ sym (first_is (suc of.cell) on_of.cell_is)

        by : Followed first piece ⊎ Last first piece → Followed second of ⊎ Last second of → (row_at parts i).off ≡ 0
        by (inl more) _ = other_has_no_off_ramp middle first parts earlier i h more
        by (inr e) (inl more) =
            (last_has_off_ramp middle first parts earlier i h e).0
            ∙ other_has_no_off_ramp whole second middle later piece.cell on.cell_is more
        by (inr e) (inr z) = absurd (never of.cell on_of.cell_is (at_end e z))

  pieced_sums : first_piece both (cells whole) ≡ cells parts
  pieced_sums = first_is (cells whole) (omega arith) ∙ ap (first_piece first) later.sums ∙ earlier.sums

  -- so within a group of groups there is no other ramp
  module _ (j : ℕ) (h : j < cells whole) (m : ℕ) (below : m < piece_count both j) where
    abbrev count : ℕ
    count = piece_count both j

    abbrev place : ℕ
    place = first_piece both j + m

    in_road : first_piece both j + m < cells parts
    in_road = place_inside (piece_count both) pieced_sums h below

    on_at_first : (eqb m 0 || eqb (row_at parts place).on 0) ≡ true
    on_at_first = by (ℕ_discrete m 0)
      where
        by : Dec (m ≡ 0) → (eqb m 0 || eqb (row_at parts place).on 0) ≡ true
        by (yes e) = rw (eq-eqb m 0 e)
        by (no other) = rw (eq-eqb _ 0 (no_on_ramp place in_road never)) (or-true (eqb m 0))
          where
            never : (j' : ℕ) → j' < cells whole → place ≡ first_piece both j' → ⊥
            never j' h' e =
                let is = one_place (piece_count both) {i = j} {k = m} {i' = j'} {k' = 0} (omega arith) below (some j' h') in
                other is.1

    off_at_last : (eqb (m + 1) count || eqb (row_at parts place).off 0) ≡ true
    off_at_last = by (ℕ_discrete (m + 1) count)
      where
        by : Dec (m + 1 ≡ count) → (eqb (m + 1) count || eqb (row_at parts place).off 0) ≡ true
        by (yes e) = rw (eq-eqb (m + 1) count e)
        by (no other) = rw (eq-eqb _ 0 (no_off_ramp place in_road never)) (or-true (eqb (m + 1) count))
          where
            never : (j' : ℕ) → j' < cells whole → suc place ≡ first_piece both (suc j') → ⊥
            never j' h' e =
                let more = some j' h' in
                let is = one_place (piece_count both) {i = j} {k = m} {i' = j'} {k' = piece_count both j' - 1} (omega arith) below (omega arith) in
                other (omega (arith, is.1, ap (piece_count both) is.0))

  -- the parts are the pieces of the whole cells
  pieced_twice : Pieced whole both parts
  pieced_twice =
      record {
        sums = pieced_sums;
        each = λ j h.
            let start = first_is j (omega arith) in
            let end = last_is j h in
            record {
              some = some j h;
              jams = jams_are j h;
              on = ap (λ i. (row_at parts i).on) start ∙ (head j h).on ∙ (group j h).on;
              c = ap (λ i. (row_at parts i).c) start ∙ (head j h).c ∙ (group j h).c;
              off = ap (λ i. (row_at parts i).off) end ∙ (tail j h).off ∙ (group j h).off;
              b = ap (λ i. (row_at parts i).b) end ∙ (tail j h).b ∙ (group j h).b;
              no_other = λ m below. both_same {c = true} {d = true} (on_at_first j h m below) (off_at_last j h m below);
            };
      }

-- two joins in turn
module _ (old : Corridor) (first middle second new : List ℕ) (known : JoinFits old first middle)
    (known' : JoinFits (joined_corridor old first middle) second new) where
  abbrev between : Corridor
  between = joined_corridor old first middle

  abbrev sizes : List ℕ
  sizes = added_up first second

  fits_at_once : JoinFits old sizes new
  fits_at_once =
      record {
        change =
            record {
              old_length = known.change.old_length;
              new_length = known'.change.new_length;
              new_numbers = known'.change.new_numbers;
              state_passes = known.change.state_passes;
              old_cells = known.change.old_cells;
              new_cells = known'.change.new_cells;
              state_len = known.change.state_len;
              state_fits_it = known.change.state_fits_it;
              old_fits = known.change.old_fits;
              new_fits = known'.change.new_fits;
            };
        counts = build-length (length second) _ ∙ known'.counts;
        pieced = pieced_twice known'.counts known'.pieced known.pieced;
      }

  -- each new cell has the vehicles, the queue and the mode of its groups
  module _ (j : ℕ) (h : j < cells new) where
    in_middle : (k : ℕ) → k < piece_count second j → first_piece second j + k < cells middle
    in_middle k below = place_inside (piece_count second) known'.pieced.sums h below

    same_count : count_of (joined_corridor between second new) j ≡ group_vehicles old (first_piece sizes j) (piece_count sizes j)
    same_count =
        joined_count between second new known' j h
        ∙ sum_of_equal_terms (piece_count second j) _ _ (λ g below. joined_count old first middle known (first_piece second j + g) (in_middle g below))
        ∙ sym (sums_are known'.counts known'.pieced known.pieced (count_of old) j h)

    same_queue : queue_of (joined_corridor between second new) j ≡ queue_of old (first_piece sizes j)
    same_queue =
        let start : first_piece second j < cells middle = omega (arith, in_middle 0 (known'.pieced.each j h).some) in
        joined_queue between second new known' j h
        ∙ joined_queue old first middle known (first_piece second j) start
        ∙ ap (queue_of old) (sym (first_is known'.counts known'.pieced known.pieced j (omega arith)))

    same_mode : last_mode_of (joined_corridor between second new) j ≡ last_mode_of old (first_piece sizes j + (piece_count sizes j - 1))
    same_mode =
        let last = piece_count second j - 1 in
        joined_mode between second new known' j h
        ∙ joined_mode old first middle known (first_piece second j + last) (in_middle last (omega (arith, (known'.pieced.each j h).some)))
        ∙ ap (last_mode_of old) (sym (last_is known'.counts known'.pieced known.pieced j h))

  same_state : joined_state between second new ≡ joined_state old sizes new
  same_state =
      is_joined old sizes new (joined_state between second new)
      (joined_length between second new known')
      (joined_entry between second new known' ∙ joined_entry old first middle known)
      same_count same_queue same_mode

-- two joins in turn are accepted as one, by the sizes added up, and leave the same state
pub two_joins_are_one : (old : Corridor) (first middle list₁ second new list₂ list : List ℕ)
    → answer (join_checks old first middle list₁) ≡ accepted → answer (join_checks (joined_corridor old first middle) second new list₂) ≡ accepted
    → length list ≡ state_length (cells new)
    → (answer (join_checks old (added_up first second) new list) ≡ accepted)
    × (joined_state old (added_up first second) new ≡ joined_state (joined_corridor old first middle) second new)
two_joins_are_one old first middle list₁ second new list₂ list e e' len =
    let known = fits Groups old first middle list₁ middle old.table e in
    let known' = fits Groups (joined_corridor old first middle) second new list₂ new middle e' in
    let one = fits_at_once old first middle second new known known' in
    let same = same_state old first middle second new known known' in
    (what_fits_is_accepted Groups old (added_up first second) new list new old.table one len, sym same)
