-- Cited by private contracts and proofs alone: no public promise rests on this file.
-- What the functions of a re-cut ask of each other.
use Rattle.std.specs.Prelude.{ℕ, ◌+◌, ◌*◌, ◌%◌, ◌≤◌, ◌<◌, ◌≡◌, List, length}
use Rattle.layout.specs.Layout.{MOST, state_length}
use Rattle.layout.specs.Corridor.{Corridor, cells_of, row_of, count_of}
use Rattle.recut.specs.declared.Piece.{Piece}
use Rattle.recut.specs.declared.Filled.{Filled}
use Rattle.recut.specs.Recut.{piece_cell}

-- the remainder that the pieces of a cell before this one leave to it, and the one that they leave with it
abbrev pub rest_before : Corridor → Piece → ℕ
rest_before old piece = count_of old piece.cell * piece.before % (row_of old piece.cell).jam

abbrev pub rest_after : Corridor → Piece → ℕ → ℕ
rest_after old piece jam = count_of old piece.cell * (piece.before + jam) % (row_of old piece.cell).jam

-- a piece as it is filled
abbrev pub filled : Corridor → List ℕ → Piece → ℕ → Filled
filled old pieces piece jam = record { cell = piece_cell old pieces piece jam; rest = rest_after old piece jam }

-- what the work on a piece of that jam count asks: it lies in its cell, which holds no more than its J
pub record Cuttable (old : Corridor) (pieces : List ℕ) (piece : Piece) (jam : ℕ) : Type 0 where
  pub state_len : length old.state ≡ state_length (cells_of old)
  pub counts : length pieces ≡ cells_of old
  pub inside : piece.cell < cells_of old
  pub few : piece.number < MOST
  pub some : 0 < (row_of old piece.cell).jam
  pub held : count_of old piece.cell ≤ (row_of old piece.cell).jam
  pub within : piece.before + jam ≤ (row_of old piece.cell).jam
