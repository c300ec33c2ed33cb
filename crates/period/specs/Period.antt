-- Rules, "One period": every flow from the state at the period's start, the sheet, and the state after.
use Rattle.std.specs.Prelude.{ℕ, suc, ◌+◌, min, ◌≡◌, true, ◌&&◌, List, ◌∷◌, ◌++◌, ltb, eqb, length}
use Rattle.whole.specs.Sums.{at_position}
use Rattle.whole.specs.Search.{pick}
use Rattle.refusals.specs.Checks.{Answer, accepted, Check, answer, when_accepted, lengths}
use Rattle.layout.specs.Layout.{entry_demand, on_demand_at, off_demand_at}
use Rattle.layout.specs.Sheet.{sheet_length, sheet_from}
use Rattle.layout.specs.Corridor.{Corridor, corridor_of, cells_of, row_of, entry_queue_of, count_of, queue_of, last_mode_of}
use Rattle.accept_rows.specs.Acceptance.{row_lengths_fit, state_numbers, demand_numbers, row_checks}
use Rattle.period.specs.Cell.{M, off_flow, mode_of}
use Rattle.period.specs.declared.Passed.{Passed}
use Rattle.period.specs.Sharing.{Sharing}
use Rattle.period.specs.Updated.{updated}

-- F, the capacity that holds for a cell now: the dropped one where the cell's mode in the period before was 1; and c, the limit that holds for
-- an on-ramp now
abbrev pub capacity_now : Corridor → ℕ → ℕ
capacity_now c i = pick (eqb (last_mode_of c i) 1) (row_of c i).dropped (row_of c i).capacity

abbrev pub limit_now : Corridor → ℕ → ℕ
limit_now c i = (row_of c i).c

module _ (c : Corridor) (demand : List ℕ) where
  -- 2. M of a cell
  abbrev pub sent_at : ℕ → ℕ
  sent_at i = M (row_of c i) (count_of c i) (off_demand_at (cells_of c) demand i)

  -- what a position offers onward: the entry Q plus its demand, a cell the least of M and F
  abbrev pub offer_at : ℕ → ℕ
  offer_at = at_position (entry_queue_of c + entry_demand demand) λ i. min (sent_at i) (capacity_now c i)

  -- what an on-ramp offers: the least of q + d and c
  abbrev pub ramp_offer_at : ℕ → ℕ
  ramp_offer_at i = min (queue_of c i + on_demand_at demand i) (limit_now c i)

module _ (way : Sharing) (c : Corridor) (demand : List ℕ) where
  -- what passes at the node upstream of the cell of index i, from the position i and from its on-ramp
  unfoldable pub node_at : ℕ → Passed
  node_at i = way (row_of c i) (count_of c i) (offer_at c demand i) (ramp_offer_at c demand i)

  -- 3. the flow out of a position is what passes at the node downstream of it; the last cell's offer passes whole. The flow out of position 0
  -- is the entry flow, and f of the cell of index i is the flow out of position i + 1
  unfoldable pub flow_at : ℕ → ℕ
  flow_at p = pick (ltb p (cells_of c)) (node_at p).main (offer_at c demand p)

  -- 4. s
  unfoldable pub off_flow_at : ℕ → ℕ
  off_flow_at i = off_flow (row_of c i) (count_of c i) (off_demand_at (cells_of c) demand i) (flow_at (suc i))

  -- 5. r
  abbrev pub on_flow_at : ℕ → ℕ
  on_flow_at i = (node_at i).ramp

  -- 7. the mode; past the last cell all is clear
  unfoldable pub mode_at : ℕ → ℕ
  mode_at i = mode_of (sent_at c demand i) (capacity_now c i) (pick (ltb (suc i) (cells_of c)) (node_at (suc i)).clear true)

  -- the flow sheet
  unfoldable pub sheet_of : List ℕ
  sheet_of = sheet_from (cells_of c) flow_at off_flow_at on_flow_at mode_at

  -- 6. the state after, and the corridor with it
  unfoldable pub state_after : List ℕ
  state_after = updated (cells_of c) c.state demand sheet_of

  abbrev pub corridor_after : Corridor
  corridor_after = corridor_of c.table state_after

-- numbers 1 to 7 of a period
abbrev pub period_checks : Corridor → List ℕ → List ℕ → List Check
period_checks c demand sheet =
    lengths (row_lengths_fit c demand && eqb (length sheet) (sheet_length (cells_of c))) ∷ state_numbers c ++ demand_numbers c demand

-- the corridor and the demand row of an accepted period
abbrev pub RowAccepted : Corridor → List ℕ → Type 0
RowAccepted c demand = answer (row_checks c demand) ≡ accepted

-- what a period answers and leaves
pub record PeriodDone (way : Sharing) (c : Corridor) (demand sheet : List ℕ) (a : Answer) (state_left sheet_left : List ℕ) : Type 0 where
  pub answered : a ≡ answer (period_checks c demand sheet)
  pub leaves_state : state_left ≡ when_accepted (answer (period_checks c demand sheet)) (state_after way c demand) c.state
  pub leaves_sheet : sheet_left ≡ when_accepted (answer (period_checks c demand sheet)) (sheet_of way c demand) sheet

-- what an accepted row leaves
pub record RowDone (way : Sharing) (c : Corridor) (demand state_left sheet_left : List ℕ) : Type 0 where
  pub leaves_state : state_left ≡ state_after way c demand
  pub leaves_sheet : sheet_left ≡ sheet_of way c demand
