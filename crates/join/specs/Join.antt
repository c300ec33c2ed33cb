-- Rules, "Join": the new state, and what is refused. The old cells of a group are the pieces of a new cell, and a group size their count.
use Rattle.std.specs.Prelude.{ℕ, ◌+◌, ◌-◌, List}
use Rattle.whole.specs.Sums.{sum}
use Rattle.refusals.specs.Checks.{Answer, Check}
use Rattle.layout.specs.declared.Cell.{Cell}
use Rattle.layout.specs.Layout.{cells, state_of}
use Rattle.layout.specs.Corridor.{Corridor, corridor_of, entry_queue_of, count_of, queue_of, last_mode_of}
use Rattle.recut_checks.specs.declared.Change.TheVariants.{Join}
use Rattle.recut_checks.specs.Pieces.{piece_count, first_piece}
use Rattle.recut_checks.specs.Change.{checks_of, ChangeDone}

-- the vehicles of count old cells from the one of index first
abbrev pub group_vehicles : Corridor → ℕ → ℕ → ℕ
group_vehicles old first count = sum count (λ k. count_of old (first + k))

module _ (old : Corridor) (groups : List ℕ) where
  -- the vehicles of its group, the on-ramp queue of the first and the mode of the last
  abbrev pub joined_cell : ℕ → Cell
  joined_cell j =
      record {
        count = group_vehicles old (first_piece groups j) (piece_count groups j);
        queue = queue_of old (first_piece groups j);
        mode = last_mode_of old (first_piece groups j + (piece_count groups j - 1));
      }

  -- Q is kept
  abbrev pub joined_state : List ℕ → List ℕ
  joined_state new = state_of (cells new) (entry_queue_of old) joined_cell

  abbrev pub joined_corridor : List ℕ → Corridor
  joined_corridor new = corridor_of new (joined_state new)

-- 1 to 5, with a group size for each new cell; then 14, where the old cells are not the pieces of the new ones
abbrev pub join_checks : Corridor → List ℕ → List ℕ → List ℕ → List Check
join_checks = checks_of Join

-- what a join answers and leaves
abbrev pub JoinDone : Corridor → List ℕ → List ℕ → List ℕ → Answer → List ℕ → Type 0
JoinDone old groups new list = ChangeDone (join_checks old groups new list) (joined_state old groups new) list
