-- What an accepted join is known to start from, and what that says of each group. Assumes nothing.
use Prim.Native.Nat.{ℕ, suc, ◌+◌, ◌≤◌, ◌<◌}
use mathlib.Core.List.{List}
use native.Mathlib.Omega.{arith}
use Rattle.whole.proofs.Sums.{sum_grows}
use Rattle.layout.specs.Layout.{cells, row_at}
use Rattle.layout.specs.Corridor.{Corridor, cells_of, row_of, count_of}
use Rattle.recut_checks.specs.Pieces.{piece_count, first_piece, jam_before}
use Rattle.recut_checks.proofs.Accepted.{Fits}
use Rattle.join.specs.Join.{group_vehicles}
use Rattle.join.specs.Private.{Joinable}
use Rattle.join.proofs.Sums.{sum_of_smaller_terms}

abbrev pub JoinFits : Corridor → List ℕ → List ℕ → Type 0
JoinFits old groups new = Fits old groups new new old.table

module _ {old : Corridor} {groups new : List ℕ} (known : JoinFits old groups new) (j : ℕ) (h : j < cells new) where
  abbrev first : ℕ
  first = first_piece groups j

  abbrev size : ℕ
  size = piece_count groups j

  -- a group lies in the road
  pub group_inside : first_piece groups j + piece_count groups j ≤ cells_of old
  group_inside = omega (arith, known.pieced.sums, sum_grows (suc j) (cells new) (piece_count groups) h)

  -- an old cell holds no more than its J, and the J of a group sum to that of its new cell
  held_by_each : (k : ℕ) → k < size → count_of old (first + k) ≤ (row_of old (first + k)).jam
  held_by_each k below = (known.change.state_fits_it.cells (first + k) (omega (arith, group_inside))).count

  pub group_fits : group_vehicles old (first_piece groups j) (piece_count groups j) ≤ (row_at new j).jam
  unfolding jam_before
  group_fits =
      omega (arith, sum_of_smaller_terms size _ (λ k. (row_of old (first + k)).jam) held_by_each, (known.pieced.each j h).jams)

  -- what the work on a group asks
  pub joinable : Joinable old (first_piece groups j) (piece_count groups j)
  joinable =
      record {
        state_len = known.change.state_len;
        some = (known.pieced.each j h).some;
        inside = group_inside;
        held = omega (arith, group_fits, (known.change.new_fits.rows j h).jam.most);
      }
