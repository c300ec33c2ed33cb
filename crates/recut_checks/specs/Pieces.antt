-- Rules, "Re-cut" and "Join": cells that are the pieces of a whole cell, and what is asked of them. In a re-cut the old cells are the whole ones
-- and the new cells, in order, their pieces; in a join the new cells are the whole ones and the old cells their pieces.
use Rattle.std.specs.Prelude.{ℕ, ◌+◌, ◌-◌, Bool, not, ◌&&◌, ◌||◌, List, eqb, get_or}
use Rattle.whole.specs.Sums.{sum, at_position}
use Rattle.whole.specs.Search.{every}
use Rattle.refusals.specs.declared.Refusal.{Refusal}
use Rattle.refusals.specs.Checks.{Check}
use Rattle.layout.specs.declared.Row.{Row}
use Rattle.layout.specs.Layout.{cells, row_at}

-- one piece count for each whole cell
abbrev pub piece_count : List ℕ → ℕ → ℕ
piece_count pieces i = get_or pieces i 0

-- the cell that is the first piece of the whole cell of index i
abbrev pub first_piece : List ℕ → ℕ → ℕ
first_piece pieces i = sum i (piece_count pieces)

-- the sum of J over a cell's pieces before the one of number k
unfoldable pub jam_before : List ℕ → ℕ → ℕ → ℕ
jam_before parts first k = sum k (λ m. (row_at parts (first + m)).jam)

-- the first piece has the whole cell's on-ramp number and c, the last one its off-ramp number and b
abbrev pub keeps_on_ramp : Row → Row → Bool
keeps_on_ramp whole piece = eqb piece.on whole.on && eqb piece.c whole.c

abbrev pub keeps_off_ramp : Row → Row → Bool
keeps_off_ramp whole piece = eqb piece.off whole.off && eqb piece.b whole.b

-- no piece has another ramp: an on-ramp only on the first, an off-ramp only on the last
abbrev pub no_other_ramp : ℕ → ℕ → Row → Bool
no_other_ramp count k piece = (eqb k 0 || eqb piece.on 0) && (eqb (k + 1) count || eqb piece.off 0)

-- the pieces of a whole cell, from the cell of index first, keep its jam count and its ramps
unfoldable pub pieces_fit : Row → List ℕ → ℕ → ℕ → Bool
pieces_fit whole parts first count =
    eqb (jam_before parts first count) whole.jam
    && keeps_on_ramp whole (row_at parts first)
    && keeps_off_ramp whole (row_at parts (first + (count - 1)))
    && every count (λ k. no_other_ramp count k (row_at parts (first + k)))

-- a count is not 0, and its pieces fit
abbrev pub cell_has_pieces : List ℕ → List ℕ → List ℕ → ℕ → Bool
cell_has_pieces whole pieces parts i =
    not (eqb (piece_count pieces i) 0) && pieces_fit (row_at whole i) parts (first_piece pieces i) (piece_count pieces i)

-- at place 0 the counts sum to the number of pieces, and at each later place a whole cell has its pieces by the rules
abbrev pub pieces_hold : List ℕ → List ℕ → List ℕ → ℕ → Bool
pieces_hold whole pieces parts = at_position (eqb (first_piece pieces (cells whole)) (cells parts)) (cell_has_pieces whole pieces parts)

-- 8 of a re-cut and 14 of a join, by the refusal that is given
abbrev pub pieces_number : (ℕ → Refusal) → List ℕ → List ℕ → List ℕ → Check
pieces_number give whole pieces parts = record { places = cells whole + 1; test = pieces_hold whole pieces parts; refusal = give }
