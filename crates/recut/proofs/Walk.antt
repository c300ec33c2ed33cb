-- The walk along the new cells, piece after piece: each new cell is one piece of one old cell. Assumes nothing.
use Prim.Native.Nat.{ℕ, zero, suc, ◌+◌, ◌≤◌, ◌<◌, zero-le}
use mathlib.Core.Path.{◌≡◌, refl}
use mathlib.Core.Logic.{◌⊎◌, inl, inr}
use mathlib.Core.List.{List}
use native.Mathlib.Numerals.{add-one}
use native.Mathlib.Omega.{arith}
use native.Mathlib.Decide.{dec_lt}
use borrow.Author.Tests.{lt-ltb, le-ltb}
use Rattle.whole.proofs.Sums.{sum_grows}
use Rattle.layout.specs.Layout.{cells, row_at}
use Rattle.recut_checks.specs.Pieces.{piece_count, first_piece, jam_before}
use Rattle.recut_checks.proofs.Pieced.{Pieced, jams_more}
use Rattle.recut.specs.declared.Piece.{Piece}
use Rattle.recut.specs.Pieces.{next_piece, piece_at}

module _ (n : ℕ) (pieces new : List ℕ) where
  -- the walk stands before the new cell of index j, or at the road's end
  pub record At (j : ℕ) (piece : Piece) : Type 0 where
    pub reaches : piece.cell ≤ n
    pub number_is : piece.cell < n → piece.number < piece_count pieces piece.cell
    pub at : j ≡ first_piece pieces piece.cell + piece.number
    pub before_is : piece.before ≡ jam_before new (first_piece pieces piece.cell) piece.number

  -- the new cell of index j is that piece
  pub record On (j : ℕ) (piece : Piece) : Type 0 where
    pub cell_is : piece.cell < n
    pub number_is : piece.number < piece_count pieces piece.cell
    pub at : j ≡ first_piece pieces piece.cell + piece.number
    pub before_is : piece.before ≡ jam_before new (first_piece pieces piece.cell) piece.number

-- a piece is followed by one of its cell, or is its cell's last
abbrev pub Followed : List ℕ → Piece → Type 0
Followed pieces piece = piece.number + 1 < piece_count pieces piece.cell

abbrev pub Last : List ℕ → Piece → Type 0
Last pieces piece = piece.number + 1 ≡ piece_count pieces piece.cell

pub followed_or_last : {n j : ℕ} {pieces new : List ℕ} {piece : Piece} → On n pieces new j piece → Followed pieces piece ⊎ Last pieces piece
followed_or_last {pieces = pieces} {piece = piece} on = by (dec_lt (piece.number + 1) (piece_count pieces piece.cell))
  where
    by : Dec (Followed pieces piece) → Followed pieces piece ⊎ Last pieces piece
    by (yes h) = inl h
    by (no h) = inr (omega (arith, h, on.number_is))

module _ (n total : ℕ) (pieces new : List ℕ) (some : (i : ℕ) → i < n → 0 < piece_count pieces i) (sums : first_piece pieces n ≡ total) where
  stands_on : {j : ℕ} {piece : Piece} → At n pieces new j piece → j < total → On n pieces new j piece
  stands_on {j} {piece} walk h =
      record { cell_is = inside; number_is = walk.number_is inside; at = walk.at; before_is = walk.before_is }
    where
      by : Dec (piece.cell < n) → piece.cell < n
      by (yes inside) = inside
      by (no outside) = absurd (omega (arith, outside, walk.at, sum_grows n piece.cell (piece_count pieces) (omega (arith, outside))))

      inside : piece.cell < n
      inside = by (dec_lt piece.cell n)

  step : (j : ℕ) (piece : Piece) → On n pieces new j piece → At n pieces new (suc j) (next_piece pieces piece (row_at new j).jam)
  unfolding jam_before
  step j piece on = by (followed_or_last on)
    where
      by : Followed pieces piece ⊎ Last pieces piece → At n pieces new (suc j) (next_piece pieces piece (row_at new j).jam)
      by (inl more) =
          rw (lt-ltb (piece.number + 1) (piece_count pieces piece.cell) more)
          (record {
            reaches = omega (arith, on.cell_is);
            number_is = λ _. more;
            at = omega (arith, on.at);
            before_is = jams_more new (first_piece pieces piece.cell) piece.number j on.at on.before_is;
          })
      by (inr all) =
          rw (le-ltb (piece.number + 1) (piece_count pieces piece.cell) (omega arith))
          (record {
            reaches = omega (arith, on.cell_is);
            number_is = λ inside. some (piece.cell + 1) inside;
            at = rw (add-one piece.cell) (omega (arith, on.at));
            before_is = refl;
          })

  pub walk : (j : ℕ) → j ≤ total → At n pieces new j (piece_at pieces new j)
  unfolding piece_at jam_before
  walk zero h = record { reaches = zero-le; number_is = some 0; at = refl; before_is = refl }
  walk (suc j) h = step j (piece_at pieces new j) (stands_on (walk j (omega arith)) h)

  on_piece : (j : ℕ) → j < total → On n pieces new j (piece_at pieces new j)
  on_piece j h = stands_on (walk j (omega arith)) h

-- each new cell is a piece of an old one
pub piece_of : {whole pieces parts : List ℕ} → Pieced whole pieces parts → (j : ℕ) → j < cells parts → On (cells whole) pieces parts j (piece_at pieces parts j)
piece_of {whole} {pieces} {parts} known = on_piece (cells whole) (cells parts) pieces parts (λ i below. (known.each i below).some) known.sums
