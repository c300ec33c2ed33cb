-- The new state as it is filled, piece after piece. Assumes nothing.
use Prim.Native.Nat.{ℕ, ◌+◌, ◌≤◌, ◌<◌}
use mathlib.Core.Path.{◌≡◌, refl, sym, ap, ◌∙◌}
use mathlib.Core.Bool.{Bool, true, false}
use mathlib.Core.List.{List}
use native.Mathlib.Numerals.{add-one}
use native.Mathlib.Omega.{arith}
use borrow.Author.Tests.{ltb-false}
use lib.Dec.{ltb, eqb}
use lib.ListN.{length}
use Rattle.whole.specs.Search.{pick}
use Rattle.layout.specs.declared.Row.{Row}
use Rattle.layout.specs.Laid.{with_entry}
use Rattle.layout.specs.Layout.{MOST, cells, row_at, state_length, queue_at, last_mode_at, state_columns, state_of, with_cell}
use Rattle.layout.specs.Corridor.{Corridor, cells_of, row_of, entry_queue_of, count_of, queue_of, last_mode_of}
use Rattle.layout.proofs.Laid.{Laying, laying_none, laying_whole}
use Rattle.layout.proofs.States.{cell_stored}
use Rattle.recut_checks.specs.Pieces.{piece_count}
use Rattle.recut.specs.declared.Piece.{Piece}
use Rattle.recut.specs.declared.Share.{Share}
use Rattle.recut.specs.declared.Filled.{Filled}
use Rattle.recut.specs.Pieces.{next_piece, piece_at}
use Rattle.recut.specs.Recut.{piece_vehicles, by_hand, piece_cell, new_cell, new_state}
use Rattle.recut.specs.Private.{rest_before, rest_after, filled, Cuttable}
use Rattle.recut.proofs.Shares.{share_at_most, share_by_remainder, none_left_before, last_leaves_none}
use Rattle.recut.proofs.Facts.{CutFits, cuttable, last_is_whole, next_asks}

-- a piece's share by hand, from what is left before it, its queue and its mode
abbrev pub hand_share : Corridor → Piece → ℕ → Share
hand_share old piece jam = by_hand (count_of old piece.cell) (row_of old piece.cell).jam jam (rest_before old piece)

abbrev own_queue : Corridor → Piece → ℕ
own_queue old piece = pick (eqb piece.number 0) (queue_of old piece.cell) 0

abbrev own_mode : Corridor → List ℕ → Piece → ℕ
own_mode old pieces piece = pick (eqb (piece.number + 1) (piece_count pieces piece.cell)) (last_mode_of old piece.cell) 0

-- what they are worked out from
module _ (old : Corridor) (piece : Piece) where
  pub shared_from : (jam : ℕ) {share : Share} {row : Row} {count rest : ℕ} → share ≡ by_hand count row.jam jam rest
      → count ≡ count_of old piece.cell → row ≡ row_of old piece.cell → rest ≡ rest_before old piece → share ≡ hand_share old piece jam
  shared_from jam share count row rest = share ∙ rw (count, row, rest)

  pub queue_from : {queue waits n : ℕ} → queue ≡ pick (eqb piece.number 0) waits 0 → waits ≡ queue_at n old.state piece.cell
      → n ≡ cells_of old → queue ≡ own_queue old piece
  queue_from queue waits n = queue ∙ rw (waits, n)

  pub mode_from : (pieces : List ℕ) {mode was n : ℕ} → mode ≡ pick (eqb (piece.number + 1) (piece_count pieces piece.cell)) was 0
      → was ≡ last_mode_at n old.state piece.cell → n ≡ cells_of old → mode ≡ own_mode old pieces piece
  mode_from pieces mode was n = mode ∙ rw (was, n)

-- a piece that is shared out by hand from what is left before it is filled as the rule has it
module _ (old : Corridor) (pieces : List ℕ) (piece : Piece) (jam : ℕ) {share : Share} (work : Cuttable old pieces piece jam)
    (is : share ≡ hand_share old piece jam) where
  abbrev n : ℕ
  n = count_of old piece.cell

  abbrev J : ℕ
  J = (row_of old piece.cell).jam

  share_as_ruled : share ≡ record { vehicles = piece_vehicles n J piece.before jam; rest = rest_after old piece jam }
  share_as_ruled = is ∙ share_by_remainder n J piece.before jam work.some

  pub share_is_held : share.vehicles ≤ n
  share_is_held = rw share_as_ruled (omega (arith, share_at_most n J (piece.before + jam) work.some work.within))

  pub fills : {queue mode : ℕ} → queue ≡ own_queue old piece → mode ≡ own_mode old pieces piece
      → record { cell = record { count = share.vehicles; queue = queue; mode = mode }; rest = share.rest } ≡ filled old pieces piece jam
  unfolding piece_cell
  fills queue-is mode_is = rw (share_as_ruled, queue-is, mode_is)

-- what a piece leaves is what is left before the next one; the last piece of a cell leaves nothing, and before a first piece there is nothing
leaves_on : (old : Corridor) (pieces : List ℕ) (piece : Piece) (jam : ℕ) → (piece_count pieces piece.cell ≤ piece.number + 1 → piece.before + jam ≡ (row_of old piece.cell).jam)
    → rest_after old piece jam ≡ rest_before old (next_piece pieces piece jam)
leaves_on old pieces piece jam last_is_whole = by (ltb (piece.number + 1) (piece_count pieces piece.cell)) refl
  where
    after : Bool → Piece
    after more =
        pick more (record { cell = piece.cell; number = piece.number + 1; before = piece.before + jam })
        (record { cell = piece.cell + 1; number = 0; before = 0 })

    by : (more : Bool) → ltb (piece.number + 1) (piece_count pieces piece.cell) ≡ more → rest_after old piece jam ≡ rest_before old (after more)
    by true e = refl
    by false e =
        rw (last_is_whole (ltb-false _ _ e))
        (last_leaves_none (count_of old piece.cell) (row_of old piece.cell).jam
        ∙ sym (none_left_before (count_of old (piece.cell + 1)) (row_of old (piece.cell + 1)).jam))

-- the first j new cells have their vehicles, queues and modes
pub record Cutting (old : Corridor) (pieces new : List ℕ) (n : ℕ) (list : List ℕ) (piece : Piece) (rest j : ℕ) : Type 0 where
  pub known : CutFits old pieces new
  pub all : n ≡ cells new
  pub reaches : j ≤ cells new
  pub piece_is : piece ≡ piece_at pieces new j
  pub rest_is : rest ≡ rest_before old piece
  pub laid : Laying (λ k. k < j) (cells new) list (state_columns (new_cell old pieces new))

pub begins : {n : ℕ} (old : Corridor) (pieces new list : List ℕ) → CutFits old pieces new → n ≡ cells new → length list ≡ state_length (cells new) → Cutting old pieces new n list (record { cell = 0; number = 0; before = 0 }) 0 0
unfolding piece_at
begins old pieces new list known all len =
    record {
      known = known;
      all = all;
      reaches = omega arith;
      piece_is = refl;
      rest_is = sym (none_left_before (count_of old 0) (row_of old 0).jam);
      laid = laying_none (cells new) list (state_columns (new_cell old pieces new)) (λ k _ below. omega arith) (omega arith);
    }

module _ {old : Corridor} {pieces new list : List ℕ} {piece : Piece} {n rest j : ℕ} (at : Cutting old pieces new n list piece rest j) where
  module _ (h : j < n) {row : Row} (row_is : row ≡ row_at new j) where
    below : j < cells new
    below = omega (arith, at.all)

    -- what the work on a piece asks, as the loop meets it
    pub work : Cuttable old pieces piece row.jam
    work = rw (row_is, at.piece_is) (cuttable old pieces new at.known j below)

    pub next_asked : (piece.cell < length pieces) × (piece.number < MOST) × (piece.before ≤ 4_000_000)
    next_asked = rw at.piece_is (next_asks old pieces new at.known j below)

    -- one more, as the loop meets it
    pub goes_on : {list' : List ℕ} {done : Filled} {piece' : Piece} → done ≡ filled old pieces piece row.jam
        → list' ≡ with_cell n list j done.cell → piece' ≡ next_piece pieces piece row.jam
        → Cutting old pieces new n list' piece' done.rest (j + 1)
    unfolding piece_at
    goes_on {done = done} done-is put next =
        record {
          known = at.known;
          all = at.all;
          reaches = omega (arith, below);
          piece_is = rw (add-one j) (next ∙ rw (row_is, at.piece_is));
          rest_is = ap (λ d. d.rest) done-is ∙ rw (next, row_is, at.piece_is) (leaves_on old pieces (piece_at pieces new j) (row_at new j).jam (last_is_whole old pieces new at.known j below));
          laid =
              rw (put, at.all)
              (cell_stored (cells new) list (new_cell old pieces new) at.laid below (λ k below other. omega arith) (λ _. ap (λ d. d.cell) done-is ∙ rw (row_is, at.piece_is)));
        }

  -- with Q the state is whole
  pub ends : {list' : List ℕ} {queue : ℕ} → n ≤ j → queue ≡ entry_queue_of old → list' ≡ with_entry list queue → list' ≡ new_state old pieces new
  unfolding state_of
  ends h queue put =
      put ∙ rw queue (laying_whole (cells new) list (state_columns (new_cell old pieces new)) at.laid (λ k below. omega (arith, at.all)))
