-- What demand 3 needs of a period, for any fair way of sharing room, from an accepted table, state and demand row. Assumes nothing.
use Prim.Native.Nat.{ℕ, suc, ◌+◌, ◌-◌, ◌≤◌, ◌<◌}
use mathlib.Core.Path.{◌≡◌}
use mathlib.Core.List.{List}
use native.Mathlib.Omega.{arith}
use Rattle.whole.specs.Share.{ONE}
use Rattle.layout.specs.Layout.{entry_demand, on_demand_at, off_demand_at}
use Rattle.layout.specs.Corridor.{Corridor, cells_of, row_of, entry_queue_of, count_of, queue_of}
use Rattle.accept_ranges.proofs.Ranges.{with_ramp_at_most}
use Rattle.accept_tables.proofs.Accepted.{TableFits}
use Rattle.accept_rows.proofs.Accepted.{StateFits, RowFits}
use Rattle.period.specs.Sharing.{Sharing}
use Rattle.period.specs.Period.{offer_at, ramp_offer_at, node_at, flow_at, off_flow_at, on_flow_at, corridor_after}
use Rattle.period.specs.Fair.{Fair}
use Rattle.period.proofs.Fair.{leaves_what_it_has}
use Rattle.period.proofs.Nodes.{flow_in_is, flow_of_offer, flow_of_sent}
use Rattle.period.proofs.Reading.{after_entry, after_count, after_queue}

module _ (way : Sharing) (fair : Fair way) (c : Corridor) (demand : List ℕ) (t : TableFits c.table) (s : StateFits c) (d : RowFits c demand) where
  -- f + s is at most n
  pub what_leaves_is_in_the_cell : (i : ℕ) → i < cells_of c → flow_at way c demand (suc i) + off_flow_at way c demand i ≤ count_of c i
  unfolding off_flow_at
  what_leaves_is_in_the_cell i h =
      let row = t.rows i h in
      let below : (row_of c i).b < ONE = omega (arith, row.b.most, with_ramp_at_most (row_of c i).off 65_535) in
      leaves_what_it_has (row_of c i) (count_of c i) (off_demand_at (cells_of c) demand i) (flow_at way c demand (suc i)) row.v.most below (flow_of_sent way fair c demand i)

  -- what comes from upstream and by the on-ramp fits the room
  pub what_comes_fits : (i : ℕ) → i < cells_of c → flow_at way c demand i + on_flow_at way c demand i ≤ (row_of c i).jam - count_of c i
  unfolding node_at
  what_comes_fits i h =
      rw (flow_in_is way c demand i h)
      (fair.both_fit (row_of c i) (count_of c i) (offer_at c demand i) (ramp_offer_at c demand i) (t.rooms i h))

  -- an on-ramp lets no more in than waits there
  pub ramp_of_queue : (i : ℕ) → on_flow_at way c demand i ≤ queue_of c i + on_demand_at demand i
  unfolding node_at
  ramp_of_queue i =
      omega (arith, fair.ramp_of_offer (row_of c i) (count_of c i) (offer_at c demand i) (ramp_offer_at c demand i))

  -- the balance of a cell, of the entry and of an on-ramp
  pub cell_balance : (i : ℕ) → i < cells_of c → count_of (corridor_after way c demand) i + flow_at way c demand (suc i) + off_flow_at way c demand i ≡ count_of c i + flow_at way c demand i + on_flow_at way c demand i
  cell_balance i h = omega (arith, after_count way c demand i h, what_leaves_is_in_the_cell i h)

  pub entry_balance : entry_queue_of (corridor_after way c demand) + flow_at way c demand 0 ≡ entry_queue_of c + entry_demand demand
  entry_balance = omega (arith, after_entry way c demand, flow_of_offer way fair c demand 0)

  pub queue_balance : (i : ℕ) → i < cells_of c → queue_of (corridor_after way c demand) i + on_flow_at way c demand i ≡ queue_of c i + on_demand_at demand i
  queue_balance i h = omega (arith, after_queue way c demand i h, ramp_of_queue i)

  -- after the period each cell holds between nothing and its jam count
  pub count_stays_within : (i : ℕ) → i < cells_of c → count_of (corridor_after way c demand) i ≤ (row_of c i).jam
  count_stays_within i h = omega (arith, after_count way c demand i h, what_comes_fits i h, (s.cells i h).count)
