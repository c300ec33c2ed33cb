-- Rules, "One period", step 6: the state after a period of n cells, from the old state, the demand row and the sheet, whatever way of
-- sharing wrote the sheet.
use Rattle.std.specs.Prelude.{ℕ, ◌+◌, ◌-◌, List}
use Rattle.layout.specs.declared.Cell.{Cell}
use Rattle.layout.specs.Layout.{entry_queue, count_at, queue_at, state_of, entry_demand, on_demand_at}
use Rattle.layout.specs.Sheet.{flow_in, off_flow_in, on_flow_in, mode_in}

module _ (n : ℕ) (state demand sheet : List ℕ) where
  -- Q gains its demand and loses its flow
  abbrev pub entry_queue_after : ℕ
  entry_queue_after = entry_queue state + entry_demand demand - flow_in sheet 0

  -- n gains the flow from upstream and r, loses f and s; q gains its demand and loses its flow; the mode is this period's
  abbrev pub cell_after : ℕ → Cell
  cell_after i =
      record {
        count = count_at state i + flow_in sheet i + on_flow_in n sheet i - (flow_in sheet (i + 1) + off_flow_in n sheet i);
        queue = queue_at n state i + on_demand_at demand i - on_flow_in n sheet i;
        mode = mode_in n sheet i;
      }

  unfoldable pub updated : List ℕ
  updated = state_of n entry_queue_after cell_after
