-- Cited by private contracts and proofs alone: no public promise rests on this file.
-- What the functions of a period ask of each other.
use Rattle.std.specs.Prelude.{ℕ, suc, ◌+◌, ◌≤◌, ◌<◌, ◌≡◌, List, length}
use Rattle.layout.specs.Layout.{state_length, entry_queue, count_at, queue_at, demand_length, entry_demand, on_demand_at}
use Rattle.layout.specs.Sheet.{sheet_length, flow_in, off_flow_in, on_flow_in, with_flow, with_off_flow, with_on_flow, with_mode}
use Rattle.layout.specs.Corridor.{Corridor, cells_of, row_of, count_of}
use Rattle.period.specs.Sharing.{Sharing}
use Rattle.period.specs.Period.{flow_at, off_flow_at, on_flow_at, mode_at}

-- What the walk over the nodes leaves of a sheet of n cells.
module _ (way : Sharing) (c : Corridor) (demand : List ℕ) (n : ℕ) (sheet : List ℕ) where
  -- at the node upstream of the cell of index p: the flow out of the position p, and r
  unfoldable pub node_passed : ℕ → List ℕ
  node_passed p = with_on_flow n (with_flow sheet p (flow_at way c demand p)) p (on_flow_at way c demand p)

  -- at the node downstream of the cell of index i: also the cell's mode
  unfoldable pub cell_sent : ℕ → List ℕ
  cell_sent i = with_mode n (node_passed (suc i)) i (mode_at way c demand i)

  -- of all that the cell of index i sends
  unfoldable pub cell_passed : ℕ → List ℕ
  cell_passed i = with_off_flow n (cell_sent i) i (off_flow_at way c demand i)

  -- the same of the last cell, which has no node downstream of it
  unfoldable pub last_passed : ℕ → List ℕ
  last_passed i =
      with_off_flow n (with_mode n (with_flow sheet (suc i) (flow_at way c demand (suc i))) i (mode_at way c demand i)) i (off_flow_at way c demand i)

-- what the work on the cell of index i, one of n, asks of the corridor and the demand row
pub record Workable (n : ℕ) (c : Corridor) (demand : List ℕ) (i : ℕ) : Type 0 where
  pub all : n ≡ cells_of c
  pub inside : i < n
  pub state_len : length c.state ≡ state_length n
  pub demand_len : length demand ≡ demand_length n
  pub v : (row_of c i).v ≤ 65_536
  pub b : (row_of c i).b < 65_536
  pub count : count_of c i ≤ (row_of c i).jam

-- what bringing the cell of index i up to date asks of the lists: nothing that is added or taken away wraps
pub record CellUpdatable (n : ℕ) (state demand sheet : List ℕ) (i : ℕ) : Type 0 where
  pub inside : i < n
  pub state_len : length state ≡ state_length n
  pub demand_len : length demand ≡ demand_length n
  pub sheet_len : length sheet ≡ sheet_length n
  pub comes : count_at state i + flow_in sheet i + on_flow_in n sheet i ≤ 4_000_000
  pub leaves : flow_in sheet (i + 1) + off_flow_in n sheet i ≤ count_at state i
  pub waits : queue_at n state i + on_demand_at demand i ≤ 1_000_000_000
  pub enters : on_flow_in n sheet i ≤ queue_at n state i + on_demand_at demand i

-- the same of all cells and of the entry
pub record Updatable (n : ℕ) (state demand sheet : List ℕ) : Type 0 where
  pub state_len : length state ≡ state_length n
  pub demand_len : length demand ≡ demand_length n
  pub sheet_len : length sheet ≡ sheet_length n
  pub each : (i : ℕ) → i < n → CellUpdatable n state demand sheet i
  pub waits : entry_queue state + entry_demand demand ≤ 1_000_000_000
  pub enters : flow_in sheet 0 ≤ entry_queue state + entry_demand demand
