-- What is handed on along the pieces, to the road's end; and sums that the pieces of each cell carry for it. Assumes nothing.
use Prim.Native.Nat.{ℕ, zero, suc, ◌+◌, ◌≤◌, ◌<◌}
use mathlib.Core.Path.{◌≡◌, refl}
use mathlib.Core.Logic.{◌⊎◌, inl, inr}
use mathlib.Core.Bool.{Bool, true, false}
use mathlib.Core.List.{List}
use native.Mathlib.Numerals.{add-one}
use native.Mathlib.Omega.{arith}
use native.Mathlib.Decide.{dec_lt, ℕ_discrete}
use borrow.Author.Tests.{lt-ltb, le-ltb, eq-eqb, ne_eqb}
use lib.Dec.{eqb}
use Rattle.whole.specs.Sums.{sum}
use Rattle.whole.specs.Search.{pick}
use Rattle.whole.proofs.Sums.{sum_grows}
use Rattle.layout.specs.Layout.{cells, row_at}
use Rattle.recut_checks.specs.Pieces.{piece_count}
use Rattle.recut_checks.proofs.Pieced.{Pieced}
use Rattle.recut.specs.declared.Piece.{Piece}
use Rattle.recut.specs.Pieces.{next_piece, piece_at}
use Rattle.recut.proofs.Walk.{At, walk, Followed, Last, followed_or_last, piece_of}

-- nothing, whether it is picked or not
pub pick_none : (b : Bool) → ◌≡◌ {A = ℕ} (pick b 0 0) 0
pick_none true = refl
pick_none false = refl

module _ (whole pieces parts : List ℕ) (known : Pieced whole pieces parts) where
  -- after the last piece every cell is passed
  all_passed : ((piece_at pieces parts (cells parts)).cell ≡ cells whole) × ((piece_at pieces parts (cells parts)).number ≡ 0)
  all_passed = by (dec_lt end.cell (cells whole))
    where
      end : Piece
      end = piece_at pieces parts (cells parts)

      at_end : At (cells whole) pieces parts (cells parts) (piece_at pieces parts (cells parts))
      at_end = walk (cells whole) (cells parts) pieces parts (λ i below. (known.each i below).some) known.sums (cells parts) (omega arith)

      by : Dec (end.cell < cells whole) → (end.cell ≡ cells whole) × (end.number ≡ 0)
      by (yes inside) =
          absurd (omega (arith, at_end.at, at_end.number_is inside, known.sums, sum_grows (suc end.cell) (cells whole) (piece_count pieces) inside))
      by (no outside) =
          let same : end.cell ≡ cells whole = omega (arith, outside, at_end.reaches) in
          (same, omega (arith, known.sums, rw same at at_end.at))

  -- what holds of each cell that is a piece of such a kind
  abbrev Each : (Piece → Type 0) → (ℕ → Piece → Type 0) → Type 0
  Each Kind P = (j : ℕ) → j < cells parts → Kind (piece_at pieces parts j) → P j (piece_at pieces parts j)

  abbrev First : Piece → Type 0
  First piece = piece.number ≡ 0

  -- what holds at the start and is handed on, within a cell and from its last piece to the next cell, holds at the road's end
  module _ (P : ℕ → ℕ → ℕ → Type 0) (start : P 0 0 0)
      (within : Each (Followed pieces) λ j piece. P j piece.cell piece.number → P (suc j) piece.cell (piece.number + 1))
      (after : Each (Last pieces) λ j piece. P j piece.cell piece.number → P (suc j) (suc piece.cell) 0) where
    along : (j : ℕ) → j ≤ cells parts → P j (piece_at pieces parts j).cell (piece_at pieces parts j).number
    unfolding piece_at
    along zero h = start
    along (suc j) h = by (followed_or_last (piece_of known j h)) (along j (omega arith))
      where
        piece : Piece
        piece = piece_at pieces parts j

        next : Piece
        next = next_piece pieces piece (row_at parts j).jam

        by : Followed pieces piece ⊎ Last pieces piece → P j piece.cell piece.number → P (suc j) next.cell next.number
        by (inl more) p = rw (lt-ltb (piece.number + 1) (piece_count pieces piece.cell) more) (within j h more p)
        by (inr all) p = rw (le-ltb (piece.number + 1) (piece_count pieces piece.cell) (omega arith), add-one piece.cell) (after j h all p)

    pub to_the_end : P (cells parts) (cells whole) 0
    to_the_end = rw (all_passed.0, all_passed.1) at (along (cells parts) (omega arith))

  -- what the pieces of a cell carry adds up, piece by piece, to what the cell had: so do the sums
  pub sums_carry : (g had : ℕ → ℕ) (part : ℕ → ℕ → ℕ) → ((i : ℕ) → part i 0 ≡ 0)
      → Each (Followed pieces) (λ j piece. part piece.cell piece.number + g j ≡ part piece.cell (piece.number + 1))
      → Each (Last pieces) (λ j piece. part piece.cell piece.number + g j ≡ had piece.cell)
      → sum (cells parts) g ≡ sum (cells whole) had
  sums_carry g had part none more all =
      omega (arith, none (cells whole), to_the_end Carried (omega (arith, none 0)) within after)
    where
      -- before the cell of index j, a piece of that number of the whole cell of index i
      Carried : ℕ → ℕ → ℕ → Type 0
      Carried j i k = sum j g ≡ sum i had + part i k

      within : Each (Followed pieces) (λ j piece. Carried j piece.cell piece.number → Carried (suc j) piece.cell (piece.number + 1))
      within j h followed so = omega (arith, so, more j h followed)

      after : Each (Last pieces) (λ j piece. Carried j piece.cell piece.number → Carried (suc j) (suc piece.cell) 0)
      after j h last so = omega (arith, so, all j h last, none (suc (piece_at pieces parts j).cell))

  -- the first piece has the whole and the others nothing
  pub first_carries : (g had : ℕ → ℕ) → Each First (λ j piece. g j ≡ had piece.cell) → Each (λ piece. First piece → ⊥) (λ j piece. g j ≡ 0)
      → sum (cells parts) g ≡ sum (cells whole) had
  first_carries g had first others =
      sums_carry g had (λ i k. pick (eqb k 0) 0 (had i)) (λ i. refl)
      (λ j h _. rw (ne_eqb ((piece_at pieces parts j).number + 1) 0 (λ e. omega arith)) (all_of j h (ℕ_discrete _ 0)))
      (λ j h _. all_of j h (ℕ_discrete _ 0))
    where
      all_of : Each (λ piece. Dec (First piece)) (λ j piece. pick (eqb piece.number 0) 0 (had piece.cell) + g j ≡ had piece.cell)
      all_of j h (yes e) = rw (eq-eqb (piece_at pieces parts j).number 0 e) (omega (arith, first j h e))
      all_of j h (no other) = rw (ne_eqb (piece_at pieces parts j).number 0 other) (omega (arith, others j h other))

  -- the last piece has the whole and the others nothing
  pub last_carries : (g had : ℕ → ℕ) → Each (Last pieces) (λ j piece. g j ≡ had piece.cell) → Each (Followed pieces) (λ j piece. g j ≡ 0)
      → sum (cells parts) g ≡ sum (cells whole) had
  last_carries g had last others =
      sums_carry g had (λ i k. 0) (λ i. refl) (λ j h followed. omega (arith, others j h followed)) (λ j h is. omega (arith, last j h is))
