-- What an accepted re-cut is known to start from, cell by cell and piece by piece. Assumes nothing.
use Prim.Native.Nat.{ℕ, suc, ◌+◌, ◌≤◌, ◌<◌}
use mathlib.Core.Path.{◌≡◌, ap, ◌∙◌}
use mathlib.Core.List.{List}
use native.Mathlib.Omega.{arith}
use lib.ListN.{length}
use Rattle.whole.proofs.Sums.{sum_grows}
use Rattle.layout.specs.Layout.{MOST, cells, row_at}
use Rattle.layout.specs.Corridor.{Corridor, cells_of, row_of}
use Rattle.recut_checks.specs.Pieces.{piece_count, first_piece, jam_before}
use Rattle.recut_checks.proofs.Pieced.{jams_more}
use Rattle.recut_checks.proofs.Accepted.{Fits}
use Rattle.recut.specs.declared.Piece.{Piece}
use Rattle.recut.specs.Pieces.{piece_at}
use Rattle.recut.specs.Private.{Cuttable}
use Rattle.recut.proofs.Walk.{On, piece_of}

abbrev pub CutFits : Corridor → List ℕ → List ℕ → Type 0
CutFits old pieces new = Fits old pieces new old.table new

-- a piece and what the work on it asks
module _ (old : Corridor) (pieces new : List ℕ) (known : CutFits old pieces new) (j : ℕ) (h : j < cells new) where
  abbrev piece : Piece
  piece = piece_at pieces new j

  pub the_piece : On (cells_of old) pieces new j (piece_at pieces new j)
  the_piece = piece_of known.pieced j h

  -- the jam counts up to and with the piece are those of its cell's first pieces
  pub jams_with : piece.before + (row_at new j).jam ≡ jam_before new (first_piece pieces piece.cell) (piece.number + 1)
  jams_with = jams_more new (first_piece pieces piece.cell) piece.number j the_piece.at the_piece.before_is

  -- a cell has no more pieces than there are new cells
  few : piece.number < MOST
  few =
      let grows = sum_grows (suc piece.cell) (cells_of old) (piece_count pieces) the_piece.cell_is in
      omega (arith, the_piece.number_is, known.pieced.sums, grows, known.change.new_cells)

  pub cuttable : Cuttable old pieces (piece_at pieces new j) (row_at new j).jam
  unfolding jam_before
  cuttable =
      let first = first_piece pieces piece.cell in
      let all = piece_count pieces piece.cell in
      record {
        state_len = known.change.state_len;
        counts = known.counts;
        inside = the_piece.cell_is;
        few = few;
        some = (known.change.old_fits.rows piece.cell the_piece.cell_is).jam.least;
        held = (known.change.state_fits_it.cells piece.cell the_piece.cell_is).count;
        within =
            let grows = sum_grows (piece.number + 1) all (λ m. (row_at new (first + m)).jam) (omega (arith, the_piece.number_is)) in
            omega (arith, jams_with, (known.pieced.each piece.cell the_piece.cell_is).jams, grows);
      }

  -- with the last piece of a cell all its jam count is there
  pub last_is_whole : piece_count pieces piece.cell ≤ piece.number + 1 → piece.before + (row_at new j).jam ≡ (row_of old piece.cell).jam
  last_is_whole last =
      let count : piece.number + 1 ≡ piece_count pieces piece.cell = omega (arith, the_piece.number_is) in
      jams_with ∙ ap (jam_before new (first_piece pieces piece.cell)) count ∙ (known.pieced.each piece.cell the_piece.cell_is).jams

  pub next_asks : (piece.cell < length pieces) × (piece.number < MOST) × (piece.before ≤ 4_000_000)
  next_asks =
      let most = (known.change.old_fits.rows piece.cell the_piece.cell_is).jam.most in
      omega (arith, the_piece.cell_is, known.counts, few, cuttable.within, most)
