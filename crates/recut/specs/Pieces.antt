-- Rules, "Re-cut": the new cells, piece after piece.
use Rattle.std.specs.Prelude.{ℕ, zero, suc, ◌+◌, List, ltb}
use Rattle.whole.specs.Search.{pick}
use Rattle.layout.specs.Layout.{row_at}
use Rattle.recut_checks.specs.Pieces.{piece_count}
use Rattle.recut.specs.declared.Piece.{Piece}

-- after a piece of jam count J comes the next of its cell, with J more before it, or the first of the next cell
abbrev pub next_piece : List ℕ → Piece → ℕ → Piece
next_piece pieces piece jam =
    pick (ltb (piece.number + 1) (piece_count pieces piece.cell))
    (record { cell = piece.cell; number = piece.number + 1; before = piece.before + jam })
    (record { cell = piece.cell + 1; number = 0; before = 0 })

-- the piece that the new cell of index j is: its old cell, its number there, and C', the sum of J before it
unfoldable pub piece_at : List ℕ → List ℕ → ℕ → Piece
piece_at pieces new zero = record { cell = 0; number = 0; before = 0 }
piece_at pieces new (suc j) = next_piece pieces (piece_at pieces new j) (row_at new j).jam
