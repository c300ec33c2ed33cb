-- What the laws of the capacity drop speak of: a table without a drop, a state without modes, and states that differ in their modes alone.
use Rattle.std.specs.Prelude.{ℕ, zero, suc, ◌<◌, ◌≡◌, List}
use Rattle.layout.specs.declared.Cell.{Cell}
use Rattle.layout.specs.Layout.{cells, row_at, entry_queue, count_at, queue_at, state_of}
use Rattle.layout.specs.Corridor.{Corridor, corridor_of, cells_of, entry_queue_of, count_of, queue_of}
use Rattle.period.specs.Sharing.{Sharing}
use Rattle.period.specs.Period.{corridor_after}
use Rattle.period_run.specs.Run.{demand_row}

-- in every row the dropped capacity is F
pub record Undropped (table : List ℕ) : Type 0 where
  pub each : (i : ℕ) → i < cells table → (row_at table i).dropped ≡ (row_at table i).capacity

-- the cell with its count and its queue, and mode 0
abbrev pub cell_without_mode : Corridor → ℕ → Cell
cell_without_mode c i = record { count = count_of c i; queue = queue_of c i; mode = 0 }

-- the same table, Q, counts and queues, and every mode 0: from here F alone holds, so a period from here is one of the rule without a drop
unfoldable pub without_modes : Corridor → Corridor
without_modes c = corridor_of c.table (state_of (cells_of c) (entry_queue_of c) (cell_without_mode c))

-- the corridor after the first k periods of a run of the rule without a drop: each period starts from there
unfoldable pub after_without_drop : Sharing → Corridor → List ℕ → ℕ → Corridor
after_without_drop way c demand zero = c
after_without_drop way c demand (suc k) =
    corridor_after way (without_modes (after_without_drop way c demand k)) (demand_row (cells_of c) demand k)

-- two states of n cells with the same Q, counts and queues, whatever their modes
pub record SameButModes (n : ℕ) (one other : List ℕ) : Type 0 where
  pub entry : entry_queue one ≡ entry_queue other
  pub count : (i : ℕ) → i < n → count_at one i ≡ count_at other i
  pub queue : (i : ℕ) → i < n → queue_at n one i ≡ queue_at n other i
