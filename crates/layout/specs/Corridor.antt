-- A corridor: the lists that a call starts from. A further list of the corridor is a further field.
use Rattle.std.specs.Prelude.{ℕ, List}
use Rattle.layout.specs.declared.Row.{Row}
use Rattle.layout.specs.declared.Cell.{Cell}
use Rattle.layout.specs.Layout.{cells, row_at, entry_queue, count_at, queue_at, last_mode_at, cell_at}

pub record Corridor : Type 0 where
  pub table : List ℕ
  pub state : List ℕ

abbrev pub corridor_of : List ℕ → List ℕ → Corridor
corridor_of table state = record { table = table; state = state }

module _ (c : Corridor) where
  -- N
  abbrev pub cells_of : ℕ
  cells_of = cells c.table

  abbrev pub row_of : ℕ → Row
  row_of = row_at c.table

  -- Q, n, q and the mode of the period before
  abbrev pub entry_queue_of : ℕ
  entry_queue_of = entry_queue c.state

  abbrev pub count_of : ℕ → ℕ
  count_of = count_at c.state

  abbrev pub queue_of : ℕ → ℕ
  queue_of = queue_at cells_of c.state

  abbrev pub last_mode_of : ℕ → ℕ
  last_mode_of = last_mode_at cells_of c.state

  abbrev pub cell_of : ℕ → Cell
  cell_of = cell_at cells_of c.state
