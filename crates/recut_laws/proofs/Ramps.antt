-- What pieces keep of their whole cells: the ramps along the road, each on-ramp's limit and each off-ramp's split. In a re-cut the pieces are the
-- new cells, in a join the old ones. Assumes nothing.
use Prim.Native.Nat.{ℕ, suc, ◌+◌, ◌-◌, ◌<◌}
use mathlib.Core.Path.{◌≡◌, refl, sym, ap, ap₂, ◌∙◌}
use mathlib.Core.Bool.{true, ◌||◌}
use mathlib.Core.List.{List, [], ◌++◌, append_assoc, append-nil}
use native.Mathlib.Omega.{arith}
use native.Mathlib.Decide.{ℕ_discrete}
use borrow.Author.Tests.{eq-eqb, ne_eqb, eqb-true}
use lib.Dec.{eqb}
use Rattle.whole.specs.Search.{pick}
use Rattle.whole.proofs.Tests.{both_hold}
use Rattle.layout.specs.Layout.{cells, row_at}
use Rattle.accept_rows.specs.Vehicles.{at_on_ramp, at_off_ramp, present, ramps_to, ramps}
use Rattle.recut_checks.specs.Pieces.{piece_count, first_piece}
use Rattle.recut_checks.proofs.Pieced.{CellPieces, Pieced}
use Rattle.recut.specs.declared.Piece.{Piece}
use Rattle.recut.specs.Pieces.{piece_at}
use Rattle.recut.proofs.Walk.{On, Followed, Last, piece_of}
use Rattle.recut_laws.proofs.Along.{to_the_end, first_carries, last_carries}

module _ (whole pieces parts : List ℕ) (known : Pieced whole pieces parts) where
  abbrev piece : ℕ → Piece
  piece = piece_at pieces parts

  -- the whole cell of a piece; the rows of a cell's first piece and of the others, of its last and of the others
  module _ (j : ℕ) (h : j < cells parts) where
    on : On (cells whole) pieces parts j (piece j)
    on = piece_of known j h

    cell_of_lem : CellPieces whole pieces parts (piece j).cell
    cell_of_lem = known.each (piece j).cell on.cell_is

    pub first_has_on_ramp : (piece_at pieces parts j).number ≡ 0
        → let cell = row_at whole (piece_at pieces parts j).cell in ((row_at parts j).on ≡ cell.on) × ((row_at parts j).c ≡ cell.c)
    first_has_on_ramp e =
        let same : j ≡ first_piece pieces (piece j).cell = omega (arith, on.at) in
        (ap (λ k. (row_at parts k).on) same ∙ cell_of_lem.on, ap (λ k. (row_at parts k).c) same ∙ cell_of_lem.c)

    pub last_has_off_ramp : Last pieces (piece j) → ((row_at parts j).off ≡ (row_at whole (piece j).cell).off) × ((row_at parts j).b ≡ (row_at whole (piece j).cell).b)
    last_has_off_ramp e =
        let same : j ≡ first_piece pieces (piece j).cell + (piece_count pieces (piece j).cell - 1) = omega (arith, on.at) in
        (ap (λ k. (row_at parts k).off) same ∙ cell_of_lem.off, ap (λ k. (row_at parts k).b) same ∙ cell_of_lem.b)

    no_others : ((eqb (piece j).number 0 || eqb (row_at parts j).on 0) ≡ true) × ((eqb ((piece j).number + 1) (piece_count pieces (piece j).cell) || eqb (row_at parts j).off 0) ≡ true)
    no_others =
        both_hold (eqb (piece j).number 0 || eqb (row_at parts j).on 0) _ (rw (← on.at) at (cell_of_lem.no_other (piece j).number on.number_is))

    pub other_has_no_on_ramp : ((piece_at pieces parts j).number ≡ 0 → ⊥) → (row_at parts j).on ≡ 0
    other_has_no_on_ramp other = eqb-true _ _ (rw (ne_eqb (piece j).number 0 other) at no_others.0)

    pub other_has_no_off_ramp : Followed pieces (piece j) → (row_at parts j).off ≡ 0
    other_has_no_off_ramp more =
        eqb-true _ _ (rw (ne_eqb ((piece j).number + 1) (piece_count pieces (piece j).cell) (λ e. omega arith)) at no_others.1)

  -- the limit c of each on-ramp number is that of the whole cells
  pub pieces_keep_each_limit : (ramp : ℕ) → (ramp ≡ 0 → ⊥) → at_on_ramp parts ramp (λ j. (row_at parts j).c) ≡ at_on_ramp whole ramp (λ i. (row_at whole i).c)
  pieces_keep_each_limit ramp some-ramp =
      first_carries whole pieces parts known (λ j. pick (eqb (row_at parts j).on ramp) (row_at parts j).c 0) _
      (λ j h e. ap₂ (λ on c. pick (eqb on ramp) c 0) (first_has_on_ramp j h e).0 (first_has_on_ramp j h e).1)
      (λ j h other. rw (other_has_no_on_ramp j h other, ne_eqb 0 ramp (λ e. some-ramp (sym e))))

  -- the split b of each off-ramp number is that of the whole cells
  pub pieces_keep_each_split : (ramp : ℕ) → (ramp ≡ 0 → ⊥) → at_off_ramp parts ramp (λ j. (row_at parts j).b) ≡ at_off_ramp whole ramp (λ i. (row_at whole i).b)
  pieces_keep_each_split ramp some-ramp =
      last_carries whole pieces parts known (λ j. pick (eqb (row_at parts j).off ramp) (row_at parts j).b 0) _
      (λ j h e. ap₂ (λ off b. pick (eqb off ramp) b 0) (last_has_off_ramp j h e).0 (last_has_off_ramp j h e).1)
      (λ j h more. rw (other_has_no_off_ramp j h more, ne_eqb 0 ramp (λ e. some-ramp (sym e))))

  -- The ramp numbers along the road

  -- once the first piece is passed, its cell's on-ramp is
  abbrev passed : ℕ → ℕ → List ℕ
  passed i k = pick (eqb k 0) [] (present (row_at whole i).on)

  -- the ramp numbers before the cell of index j, a piece of that number of the whole cell of index i
  abbrev Read : ℕ → ℕ → ℕ → Type 0
  Read j i k = ramps_to parts j ≡ ramps_to whole i ++ passed i k

  passed_with_this : (j : ℕ) → j < cells parts → passed (piece j).cell (piece j).number ++ present (row_at parts j).on ≡ present (row_at whole (piece j).cell).on
  passed_with_this j h = by (ℕ_discrete (piece j).number 0)
    where
      by : Dec ((piece j).number ≡ 0) → passed (piece j).cell (piece j).number ++ present (row_at parts j).on ≡ present (row_at whole (piece j).cell).on
      by (yes e) = rw (eq-eqb (piece j).number 0 e) (ap present (first_has_on_ramp j h e).0)
      by (no other) = rw (ne_eqb (piece j).number 0 other, other_has_no_on_ramp j h other) (append-nil (present (row_at whole (piece j).cell).on))

  one_cell_more : (j : ℕ) → j < cells parts → Read j (piece j).cell (piece j).number
      → ramps_to parts (suc j) ≡ ramps_to whole (piece j).cell ++ (present (row_at whole (piece j).cell).on ++ present (row_at parts j).off)
  unfolding ramps_to
  one_cell_more j h before =
      rw before
      (simp append_assoc (simp append_assoc at (ap (λ l. ramps_to whole (piece j).cell ++ (l ++ present (row_at parts j).off)) (passed_with_this j h))))

  -- the ramp numbers read along the road are the same list
  pub pieces_keep_the_ramps : ramps parts ≡ ramps whole
  unfolding ramps_to
  pieces_keep_the_ramps = to_the_end whole pieces parts known Read refl within after ∙ append-nil (ramps_to whole (cells whole))
    where
      within : (j : ℕ) → j < cells parts → Followed pieces (piece j) → Read j (piece j).cell (piece j).number → Read (suc j) (piece j).cell ((piece j).number + 1)
      within j h more before =
          one_cell_more j h before
          ∙ rw (other_has_no_off_ramp j h more, ne_eqb ((piece j).number + 1) 0 (λ e. omega arith)) (simp append-nil)

      after : (j : ℕ) → j < cells parts → Last pieces (piece j) → Read j (piece j).cell (piece j).number → Read (suc j) (suc (piece j).cell) 0
      after j h e before = one_cell_more j h before ∙ rw (last_has_off_ramp j h e).0 (simp append-nil)
