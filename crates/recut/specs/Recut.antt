-- Rules, "Re-cut": the new state, and what is refused.
use Rattle.std.specs.Prelude.{ℕ, ◌+◌, ◌-◌, ◌*◌, ◌/◌, ◌%◌, List, eqb}
use Rattle.whole.specs.Search.{pick}
use Rattle.refusals.specs.Checks.{Answer, Check}
use Rattle.layout.specs.declared.Cell.{Cell}
use Rattle.layout.specs.Layout.{cells, row_at, state_of}
use Rattle.layout.specs.Corridor.{Corridor, corridor_of, row_of, entry_queue_of, count_of, queue_of, last_mode_of}
use Rattle.recut_checks.specs.declared.Change.TheVariants.{Cut}
use Rattle.recut_checks.specs.Pieces.{piece_count}
use Rattle.recut_checks.specs.Change.{checks_of, ChangeDone}
use Rattle.recut.specs.declared.Piece.{Piece}
use Rattle.recut.specs.declared.Share.{Share}
use Rattle.recut.specs.Pieces.{piece_at}

-- the vehicles of a piece: n·C/J − n·C'/J, each rounded down, with C' the sum of J before it and C the sum with it
abbrev pub piece_vehicles : ℕ → ℕ → ℕ → ℕ → ℕ
piece_vehicles n J before jam = n * (before + jam) / J - n * before / J

-- the same by hand, with the remainder that the piece before left: n·j and it, divided by J, give the vehicles and leave the next remainder
unfoldable pub divided : ℕ → ℕ → Share
divided all J = pick (eqb J 0) (record { vehicles = 0; rest = 0 }) (record { vehicles = all / J; rest = all % J })

abbrev pub by_hand : ℕ → ℕ → ℕ → ℕ → Share
by_hand n J jam rest = divided (n * jam + rest) J

-- what a piece of that jam count becomes: its vehicles; the on-ramp queue, which goes to the first piece; the mode, which goes to the last
unfoldable pub piece_cell : Corridor → List ℕ → Piece → ℕ → Cell
piece_cell old pieces piece jam =
    record {
      count = piece_vehicles (count_of old piece.cell) (row_of old piece.cell).jam piece.before jam;
      queue = pick (eqb piece.number 0) (queue_of old piece.cell) 0;
      mode = pick (eqb (piece.number + 1) (piece_count pieces piece.cell)) (last_mode_of old piece.cell) 0;
    }

module _ (old : Corridor) (pieces new : List ℕ) where
  abbrev pub new_cell : ℕ → Cell
  new_cell j = piece_cell old pieces (piece_at pieces new j) (row_at new j).jam

  -- Q is kept
  abbrev pub new_state : List ℕ
  new_state = state_of (cells new) (entry_queue_of old) new_cell

  abbrev pub new_corridor : Corridor
  new_corridor = corridor_of new new_state

-- 1 to 5, with a piece count for each old cell; then 8, where the new cells are not the pieces of the old ones
abbrev pub recut_checks : Corridor → List ℕ → List ℕ → List ℕ → List Check
recut_checks = checks_of Cut

-- what a re-cut answers and leaves
abbrev pub RecutDone : Corridor → List ℕ → List ℕ → List ℕ → Answer → List ℕ → Type 0
RecutDone old pieces new list = ChangeDone (recut_checks old pieces new list) (new_state old pieces new) list
