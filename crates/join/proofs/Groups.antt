-- The new state as it is filled, group after group. Assumes nothing.
use Prim.Native.Nat.{ℕ, ◌+◌, ◌-◌, ◌≤◌, ◌<◌}
use mathlib.Core.Path.{◌≡◌, refl, ◌∙◌}
use mathlib.Core.List.{List}
use native.Mathlib.Omega.{arith}
use lib.ListN.{length}
use Rattle.whole.proofs.Sums.{sum_more}
use Rattle.layout.specs.Laid.{with_entry}
use Rattle.layout.specs.Layout.{cells, state_length, queue_at, last_mode_at, state_columns, state_of, with_cell}
use Rattle.layout.specs.Corridor.{Corridor, cells_of, entry_queue_of}
use Rattle.layout.proofs.Laid.{Laying, laying_none, laying_whole}
use Rattle.layout.proofs.States.{cell_stored}
use Rattle.recut_checks.specs.Pieces.{piece_count, first_piece}
use Rattle.join.specs.Join.{group_vehicles, joined_cell, joined_state}
use Rattle.join.specs.Private.{Joinable}
use Rattle.join.proofs.Facts.{JoinFits, joinable}

-- the first j new cells have their vehicles, queues and modes, and the old cell of index first comes next
pub record AddingUp (old : Corridor) (groups new : List ℕ) (n : ℕ) (list : List ℕ) (first j : ℕ) : Type 0 where
  pub known : JoinFits old groups new
  pub all : n ≡ cells new
  pub reaches : j ≤ cells new
  pub first_is : first ≡ first_piece groups j
  pub laid : Laying (λ k. k < j) (cells new) list (state_columns (joined_cell old groups))

pub begins : {n : ℕ} {old : Corridor} {groups new : List ℕ} (list : List ℕ) → JoinFits old groups new → n ≡ cells new
    → length list ≡ state_length (cells new) → AddingUp old groups new n list 0 0
begins {old = old} {groups} {new} list known all len =
    record {
      known = known;
      all = all;
      reaches = omega arith;
      first_is = refl;
      laid = laying_none (cells new) list (state_columns (joined_cell old groups)) (λ k _ below. omega arith) (omega (arith, len));
    }

module _ {old : Corridor} {groups new list : List ℕ} {n first j : ℕ} (at : AddingUp old groups new n list first j) where
  module _ (h : j < n) where
    below : j < cells new
    below = omega (arith, at.all)

    -- a group size is in the list
    pub size_inside : j < length groups
    size_inside = omega (arith, below, at.known.counts)

    module _ {size : ℕ} (size_is : size ≡ piece_count groups j) where
      -- what the work on a group asks, as the loop meets it
      pub work : Joinable old first size
      work = rw (at.first_is, size_is) (joinable at.known j below)

      -- one more, as the loop meets it
      pub goes_on : {list' : List ℕ} {many count queue mode : ℕ} → count ≡ group_vehicles old first size → many ≡ cells_of old
          → queue ≡ queue_at many old.state first → mode ≡ last_mode_at many old.state (first + (size - 1))
          → list' ≡ with_cell n list j (record { count = count; queue = queue; mode = mode })
          → AddingUp old groups new n list' (first + size) (j + 1)
      goes_on count many queue mode put =
          record {
            known = at.known;
            all = at.all;
            reaches = omega (arith, below);
            first_is = sum_more j (piece_count groups) at.first_is size_is;
            laid =
                rw (put, at.all)
                (cell_stored (cells new) list (joined_cell old groups) at.laid below (λ k below other. omega arith)
                (λ _. rw (count, queue, mode, many, at.first_is, size_is)));
          }

  -- with Q the state is whole
  pub ends : {list' : List ℕ} {queue : ℕ} → n ≤ j → queue ≡ entry_queue_of old → list' ≡ with_entry list queue → list' ≡ joined_state old groups new
  unfolding state_of
  ends h queue put =
      put ∙ rw queue (laying_whole (cells new) list (state_columns (joined_cell old groups)) at.laid (λ k below. omega (arith, at.all)))
