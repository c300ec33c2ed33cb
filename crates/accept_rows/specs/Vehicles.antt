-- Demand 3: what is on the corridor: vehicles, the queue of each on-ramp number, and the ramp numbers along the road.
use Rattle.std.specs.Prelude.{ℕ, zero, suc, ◌+◌, List, [], ◌∷◌, ◌++◌, eqb}
use Rattle.whole.specs.Sums.{sum}
use Rattle.whole.specs.Search.{pick}
use Rattle.layout.specs.Layout.{cells, row_at}
use Rattle.layout.specs.Corridor.{Corridor, cells_of, entry_queue_of, count_of, queue_of}

-- vehicles in cells and queues
abbrev pub vehicles : Corridor → ℕ
vehicles c = entry_queue_of c + sum (cells_of c) (count_of c) + sum (cells_of c) (queue_of c)

-- what the cells whose on-ramp, or off-ramp, has a number add up to: that one cell's, since no number occurs twice
abbrev pub at_on_ramp : List ℕ → ℕ → (ℕ → ℕ) → ℕ
at_on_ramp table ramp f = sum (cells table) (λ i. pick (eqb (row_at table i).on ramp) (f i) 0)

abbrev pub at_off_ramp : List ℕ → ℕ → (ℕ → ℕ) → ℕ
at_off_ramp table ramp f = sum (cells table) (λ i. pick (eqb (row_at table i).off ramp) (f i) 0)

-- the ramp numbers of the first n cells, the on-ramp of a cell before its off-ramp, zeros left out
abbrev pub present : ℕ → List ℕ
present ramp = pick (eqb ramp 0) [] (ramp ∷ [])

unfoldable pub ramps_to : List ℕ → ℕ → List ℕ
ramps_to table zero = []
ramps_to table (suc n) = ramps_to table n ++ (present (row_at table n).on ++ present (row_at table n).off)

-- the ramp numbers along the road
abbrev pub ramps : List ℕ → List ℕ
ramps table = ramps_to table (cells table)
