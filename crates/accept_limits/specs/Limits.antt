-- Rules, "Refusal numbers" 6: the most that each number of a demand row may be, in the row's own order.
use Rattle.std.specs.Prelude.{ℕ, List}
use Rattle.layout.specs.declared.Row.{Row}
use Rattle.layout.specs.declared.Demands.{Demands}
use Rattle.layout.specs.Layout.{cells, row_at, demand_of}
use Rattle.accept_ranges.specs.Ranges.{with_ramp, demand_limit, given_off}

-- d and o of a cell
abbrev pub cell_limits : Row → Demands
cell_limits row = record { on = with_ramp row.on demand_limit; off = given_off row }

-- the entry, then each d, then each o
abbrev pub demand_limits : List ℕ → List ℕ
demand_limits table = demand_of (cells table) demand_limit (λ i. cell_limits (row_at table i))
