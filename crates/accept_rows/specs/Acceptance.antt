-- Rules, "Units and the cell row" and "Refusal numbers" 1 to 7: what is asked of a state and a demand row. What is asked of a table
-- stands in `accept_tables`.
use Rattle.std.specs.Prelude.{ℕ, ◌+◌, Bool, ◌&&◌, List, [], ◌∷◌, ◌++◌, leb, eqb, length}
use Rattle.whole.specs.Sums.{at_position}
use Rattle.refusals.specs.declared.Refusal.TheVariants.{StateNumber, Demand, QueueOver}
use Rattle.layout.specs.Layout.{state_length, demand_length, entry_demand, on_demand_at, off_demand_at}
use Rattle.layout.specs.Corridor.{Corridor, cells_of, row_of, entry_queue_of, queue_of, cell_of}
use Rattle.refusals.specs.Checks.{Check, lengths}
use Rattle.accept_ranges.specs.Ranges.{queue_limit, state_fits, demand_limit, demand_fits, queue_holds}
use Rattle.accept_tables.specs.Tables.{table_length_fits, table_numbers}

-- 1: the table's length fits, and the lengths of the lists under it follow from N
abbrev pub state_lengths_fit : Corridor → Bool
state_lengths_fit c = table_length_fits c.table && eqb (length c.state) (state_length (cells_of c))

abbrev pub row_lengths_fit : Corridor → List ℕ → Bool
row_lengths_fit c demand = state_lengths_fit c && eqb (length demand) (demand_length (cells_of c))

-- The checks, by number. A place is a cell, counted from 1, or 0 for the entry.

abbrev pub state_in_range : Corridor → Check
state_in_range c =
    record {
      places = cells_of c + 1;
      test = at_position (leb (entry_queue_of c) queue_limit) (λ i. state_fits (row_of c i) (cell_of c i));
      refusal = StateNumber;
    }

abbrev pub demand_in_range : Corridor → List ℕ → Check
demand_in_range c demand =
    record {
      places = cells_of c + 1;
      test = at_position (leb (entry_demand demand) demand_limit) (λ i. demand_fits (row_of c i) (on_demand_at demand i) (off_demand_at (cells_of c) demand i));
      refusal = Demand;
    }

abbrev pub queues_hold : Corridor → List ℕ → Check
queues_hold c demand =
    record {
      places = cells_of c + 1;
      test = at_position (queue_holds (entry_queue_of c) (entry_demand demand)) (λ i. queue_holds (queue_of c i) (on_demand_at demand i));
      refusal = QueueOver;
    }

-- What is asked of a state under its table (1 to 5), and of a demand row under both (1 to 7)

abbrev pub state_numbers : Corridor → List Check
state_numbers c = table_numbers c.table ++ (state_in_range c ∷ [])

abbrev pub demand_numbers : Corridor → List ℕ → List Check
demand_numbers c demand = demand_in_range c demand ∷ queues_hold c demand ∷ []

abbrev pub state_checks : Corridor → List Check
state_checks c = lengths (state_lengths_fit c) ∷ state_numbers c

abbrev pub row_checks : Corridor → List ℕ → List Check
row_checks c demand = lengths (row_lengths_fit c demand) ∷ state_numbers c ++ demand_numbers c demand

-- what is asked of a demand row alone, under a table and a state that are accepted already (1, 6 and 7)
abbrev pub demand_checks : Corridor → List ℕ → List Check
demand_checks c demand = lengths (row_lengths_fit c demand) ∷ demand_numbers c demand

-- what is asked of a state alone, under a table that is accepted already (1 and 5)
abbrev pub state_alone_checks : Corridor → List Check
state_alone_checks c = lengths (state_lengths_fit c) ∷ state_in_range c ∷ []
