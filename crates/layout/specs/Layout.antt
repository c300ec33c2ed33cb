-- Rules, "Units and the cell row": where each number stands in a table, a state and a demand row, and how long each list is. Only this
-- file, and `Sheet` for the flow sheet, knows.
use Rattle.std.specs.Prelude.{ℕ, ◌+◌, ◌*◌, ◌/◌, ◌%◌, ◌≤◌, List, [], ◌∷◌, eqb, length, get_or}
use Rattle.whole.specs.Search.{pick}
use Rattle.layout.specs.declared.Row.{Row}
use Rattle.layout.specs.declared.Cell.{Cell}
use Rattle.layout.specs.declared.Demands.{Demands}
use Rattle.layout.specs.Laid.{laid, stored}

-- the numbers of a row
abbrev pub WIDTH : ℕ
WIDTH = 10

-- N, the whole rows of a table
abbrev pub cells : List ℕ → ℕ
cells table = length table / WIDTH

abbrev pub table_length : ℕ → ℕ
table_length n = WIDTH * n

-- a table of n rows is no longer than a list can be
abbrev pub Listed : ℕ → Type 0
Listed n = table_length n ≤ 18_446_744_073_709_551_615

-- the most cells of a table
abbrev pub MOST : ℕ
MOST = 512

abbrev pub row_at : List ℕ → ℕ → Row
row_at table i =
    record {
      v = get_or table (10 * i + 0) 0;
      w = get_or table (10 * i + 1) 0;
      capacity = get_or table (10 * i + 2) 0;
      jam = get_or table (10 * i + 3) 0;
      on = get_or table (10 * i + 4) 0;
      x = get_or table (10 * i + 5) 0;
      c = get_or table (10 * i + 6) 0;
      off = get_or table (10 * i + 7) 0;
      b = get_or table (10 * i + 8) 0;
      dropped = get_or table (10 * i + 9) 0;
    }

-- the ramp positions of n cells along the road, two a cell: the on-ramp comes before the off-ramp; and the cell of a position
abbrev pub ramp_positions : ℕ → ℕ
ramp_positions n = 2 * n

abbrev pub ramp_cell : ℕ → ℕ
ramp_cell k = k / 2

-- the ramp number at a position
abbrev pub ramp_at : List ℕ → ℕ → ℕ
ramp_at table k = pick (eqb (k % 2) 0) (row_at table (ramp_cell k)).on (row_at table (ramp_cell k)).off

-- a state of n cells: the entry queue Q, then the counts, then the on-ramp queues, then the modes of the period before
abbrev pub state_length : ℕ → ℕ
state_length n = 3 * n + 1

abbrev pub entry_queue : List ℕ → ℕ
entry_queue state = get_or state 0 0

abbrev pub count_at : List ℕ → ℕ → ℕ
count_at state i = get_or state (1 + i) 0

abbrev pub queue_at : ℕ → List ℕ → ℕ → ℕ
queue_at n state i = get_or state (1 + n + i) 0

abbrev pub last_mode_at : ℕ → List ℕ → ℕ → ℕ
last_mode_at n state i = get_or state (1 + n + n + i) 0

-- the cell of index i
abbrev pub cell_at : ℕ → List ℕ → ℕ → Cell
cell_at n state i = record { count = count_at state i; queue = queue_at n state i; mode = last_mode_at n state i }

-- the numbers of a cell, one for each column
abbrev pub cell_numbers : Cell → List ℕ
cell_numbers cell = cell.count ∷ cell.queue ∷ cell.mode ∷ []

abbrev pub state_columns : (ℕ → Cell) → List (ℕ → ℕ)
state_columns cell = (λ i. (cell i).count) ∷ (λ i. (cell i).queue) ∷ (λ i. (cell i).mode) ∷ []

-- the state with this entry queue and these cells
unfoldable pub state_of : ℕ → ℕ → (ℕ → Cell) → List ℕ
state_of n entry cell = laid n entry (state_columns cell)

-- the state with the cell of index i stored
unfoldable pub with_cell : ℕ → List ℕ → ℕ → Cell → List ℕ
with_cell n state i cell = stored n 1 i (cell_numbers cell) state

-- a demand row of n cells: the entry demand, then the on-ramp demands d, then the off-ramp demands o
abbrev pub demand_length : ℕ → ℕ
demand_length n = 2 * n + 1

abbrev pub entry_demand : List ℕ → ℕ
entry_demand demand = get_or demand 0 0

abbrev pub on_demand_at : List ℕ → ℕ → ℕ
on_demand_at demand i = get_or demand (1 + i) 0

abbrev pub off_demand_at : ℕ → List ℕ → ℕ → ℕ
off_demand_at n demand i = get_or demand (1 + n + i) 0

abbrev pub demand_columns : (ℕ → Demands) → List (ℕ → ℕ)
demand_columns demands = (λ i. (demands i).on) ∷ (λ i. (demands i).off) ∷ []

-- the demand row with this entry demand and these demands of the cells
unfoldable pub demand_of : ℕ → ℕ → (ℕ → Demands) → List ℕ
demand_of n entry demands = laid n entry (demand_columns demands)

-- the demand row with the demands of the cell of index i stored
unfoldable pub with_demands : ℕ → List ℕ → ℕ → Demands → List ℕ
with_demands n demand i demands = stored n 1 i (demands.on ∷ demands.off ∷ []) demand
