-- What the laws of cutting and joining speak of: a table that keeps the cells of another, and groups of groups.
use Rattle.std.specs.Prelude.{ℕ, ◌+◌, ◌<◌, ◌≡◌, List, length}
use Rattle.whole.specs.Lists.{build}
use Rattle.whole.specs.Sums.{sum}
use Rattle.layout.specs.Layout.{cells, row_at}
use Rattle.recut_checks.specs.Pieces.{piece_count, first_piece}

-- a table that keeps N and, of each cell, J, the ramps, c and b; v, w, F, x and the dropped capacity are free
pub record KeepsCells (old table : List ℕ) : Type 0 where
  pub many : cells table ≡ cells old
  pub jam : (i : ℕ) → i < cells old → (row_at table i).jam ≡ (row_at old i).jam
  pub on : (i : ℕ) → i < cells old → (row_at table i).on ≡ (row_at old i).on
  pub c : (i : ℕ) → i < cells old → (row_at table i).c ≡ (row_at old i).c
  pub off : (i : ℕ) → i < cells old → (row_at table i).off ≡ (row_at old i).off
  pub b : (i : ℕ) → i < cells old → (row_at table i).b ≡ (row_at old i).b

-- the sizes of groups of groups: of each later group, the sizes of the earlier ones that it joins, added up
abbrev pub added_up : List ℕ → List ℕ → List ℕ
added_up first second = build (length second) (λ j. sum (piece_count second j) (λ k. piece_count first (first_piece second j + k)))
