-- What is known of cells that are the pieces of others. Assumes nothing.
use Prim.Native.Nat.{ℕ, suc, ◌+◌, ◌-◌, ◌<◌}
use mathlib.Core.Path.{◌≡◌}
use mathlib.Core.Bool.{true, not, ◌&&◌}
use mathlib.Core.List.{List}
use native.Mathlib.Numerals.{add-one}
use native.Mathlib.Omega.{arith}
use borrow.Author.Tests.{eqb-true, eqb-false, not-true}
use lib.Dec.{eqb}
use Rattle.whole.proofs.Search.{Passes, passes_every}
use Rattle.whole.proofs.Tests.{both_hold}
use Rattle.layout.specs.Layout.{cells, row_at}
use Rattle.recut_checks.specs.Pieces.{piece_count, first_piece, jam_before, keeps_on_ramp, keeps_off_ramp, no_other_ramp, pieces_fit, cell_has_pieces, pieces_hold}

-- the sum of J up to and with a piece is that of one piece more
pub jams_more : (parts : List ℕ) (first k j : ℕ) {before : ℕ} → j ≡ first + k → before ≡ jam_before parts first k → before + (row_at parts j).jam ≡ jam_before parts first (k + 1)
unfolding jam_before
jams_more parts first k j at e = rw (add-one k, at, e)

-- a whole cell and its pieces
pub record CellPieces (whole pieces parts : List ℕ) (i : ℕ) : Type 0 where
  pub some : 0 < piece_count pieces i
  pub jams : jam_before parts (first_piece pieces i) (piece_count pieces i) ≡ (row_at whole i).jam
  pub on : (row_at parts (first_piece pieces i)).on ≡ (row_at whole i).on
  pub c : (row_at parts (first_piece pieces i)).c ≡ (row_at whole i).c
  pub off : (row_at parts (first_piece pieces i + (piece_count pieces i - 1))).off ≡ (row_at whole i).off
  pub b : (row_at parts (first_piece pieces i + (piece_count pieces i - 1))).b ≡ (row_at whole i).b
  pub no_other : (k : ℕ) → k < piece_count pieces i → no_other_ramp (piece_count pieces i) k (row_at parts (first_piece pieces i + k)) ≡ true

cell_pieces : (whole pieces parts : List ℕ) (i : ℕ) → cell_has_pieces whole pieces parts i ≡ true → CellPieces whole pieces parts i
unfolding pieces_fit
cell_pieces whole pieces parts i e =
    let count = piece_count pieces i in
    let first = first_piece pieces i in
    let row = row_at whole i in
    let last = row_at parts (first + (count - 1)) in
    let jams = eqb (jam_before parts first count) row.jam in
    let both = both_hold (not (eqb count 0)) _ e in
    let others = both_hold (jams && keeps_on_ramp row (row_at parts first) && keeps_off_ramp row last) _ both.1 in
    let offs = both_hold (jams && keeps_on_ramp row (row_at parts first)) _ others.0 in
    let ons = both_hold jams _ offs.0 in
    let on = both_hold (eqb (row_at parts first).on row.on) _ ons.1 in
    let off = both_hold (eqb last.off row.off) _ offs.1 in
    record {
      some = omega (arith, eqb-false count 0 (not-true _ both.0));
      jams = eqb-true _ _ ons.0;
      on = eqb-true _ _ on.0;
      c = eqb-true _ _ on.1;
      off = eqb-true _ _ off.0;
      b = eqb-true _ _ off.1;
      no_other = passes_every count _ others.1;
    }

-- the cells of a table are the pieces of the whole cells
pub record Pieced (whole pieces parts : List ℕ) : Type 0 where
  pub sums : first_piece pieces (cells whole) ≡ cells parts
  pub each : (i : ℕ) → i < cells whole → CellPieces whole pieces parts i

pub pieced : (whole pieces parts : List ℕ) → Passes (cells whole + 1) (pieces_hold whole pieces parts) → Pieced whole pieces parts
pieced whole pieces parts all =
    record {
      sums = eqb-true (first_piece pieces (cells whole)) (cells parts) (all 0 (omega arith));
      each = λ i h. cell_pieces whole pieces parts i (all (suc i) (omega arith));
    }
