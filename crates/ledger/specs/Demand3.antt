-- Demand 3, as one statement, for a way of sharing room: from an accepted table and state, each call taking what the last one left, after any
-- list of periods, runs, re-cuts and joins, refused ones among them.
use Rattle.std.specs.Prelude.{ℕ, ◌+◌, ◌≤◌, ◌<◌, ◌≡◌, List}
use Rattle.layout.specs.Layout.{ramp_positions, ramp_at}
use Rattle.layout.specs.Corridor.{Corridor, cells_of, row_of, entry_queue_of, count_of, queue_of, last_mode_of}
use Rattle.accept_ranges.specs.Ranges.{with_ramp, queue_limit}
use Rattle.accept_rows.specs.Vehicles.{vehicles}
use Rattle.period.specs.Sharing.{Sharing}
use Rattle.ledger.specs.Account.{Account}
use Rattle.ledger.specs.Calls.{Call, IsAccepted, leaves_all, account_of_all, queue_of_ramp, ramps_of}

-- what holds between the corridor at the start and the one that the calls left, with the account of all of them
pub record Holds (start left : Corridor) (account : Account) : Type 0 where
  -- The table and the state are accepted again.
  pub accepted : IsAccepted left
  -- Each cell holds between nothing and its jam count.
  pub counts : (i : ℕ) → i < cells_of left → count_of left i ≤ (row_of left i).jam
  -- The entry's queue is within its range, and so is each on-ramp's, which is 0 where there is no on-ramp.
  pub entry_queue : entry_queue_of left ≤ queue_limit
  pub ramp_queues : (i : ℕ) → i < cells_of left → queue_of left i ≤ with_ramp (row_of left i).on queue_limit
  -- Each cell's mode is 0 or 1.
  pub modes : (i : ℕ) → i < cells_of left → last_mode_of left i ≤ 1
  -- A ramp number that stands at two positions along the road is 0, no ramp.
  pub ramps_once : (j k : ℕ) → j < k → k < ramp_positions (cells_of left) → ramp_at left.table j ≡ ramp_at left.table k → ramp_at left.table k ≡ 0
  -- Vehicles in cells and queues, with all that left by off-ramps and the last cell, are those at the start with all accepted demand.
  pub balance : vehicles left + account.out ≡ vehicles start + account.brought
  -- Each on-ramp's queue, with all its flows, is its own at the start with all its accepted demand.
  pub queues : (ramp : ℕ) → queue_of_ramp ramp left + account.in_at ramp ≡ queue_of_ramp ramp start + account.brought_at ramp
  -- The ramp numbers along the road are the same list, in the same order.
  pub same_ramps : ramps_of left ≡ ramps_of start

abbrev pub Demand3 : Sharing → Corridor → List Call → Type 0
Demand3 way start calls = Holds start (leaves_all way calls start) (account_of_all way calls start)
