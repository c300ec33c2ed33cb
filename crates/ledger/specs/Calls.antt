-- Demand 3: a call, what it leaves, and its account, from the definitions that the promises of `period`, `period_run`, `recut` and `join` cite.
use Rattle.std.specs.Prelude.{ℕ, ◌≡◌, List, [], ◌∷◌}
use Rattle.refusals.specs.Checks.{accepted, answer, when_accepted}
use Rattle.layout.specs.Corridor.{Corridor, cells_of, queue_of}
use Rattle.accept_rows.specs.Vehicles.{at_on_ramp, ramps}
use Rattle.accept_rows.specs.Acceptance.{state_checks}
use Rattle.period.specs.Sharing.{Sharing}
use Rattle.period.specs.Period.{corridor_after, period_checks}
use Rattle.period_run.specs.Run.{demand_row, corridor_after_periods, periods_run}
use Rattle.recut.specs.Recut.{new_corridor, recut_checks}
use Rattle.join.specs.Join.{joined_corridor, join_checks}
use Rattle.ledger.specs.Account.{Account, nothing, both, total, row_account}

-- a table and a state that are accepted, numbers 1 to 5
abbrev pub IsAccepted : Corridor → Type 0
IsAccepted c = answer (state_checks c) ≡ accepted

-- a call with its lists, whatever they are: it may be refused
pub data Call : Type 0 where
  -- a period, with its demand row and the list for its sheet
  period : List ℕ → List ℕ → Call
  -- a run, with its demand rows and the list for its sheet
  run : List ℕ → List ℕ → Call
  -- a re-cut, with its piece counts, its new table and the list for its new state
  recut : List ℕ → List ℕ → List ℕ → Call
  -- a join, with its group sizes, its new table and the list for its new state
  join : List ℕ → List ℕ → List ℕ → Call

module _ (way : Sharing) where
  -- what a call leaves
  unfoldable pub leaves : Call → Corridor → Corridor
  leaves (period demand sheet) c = when_accepted (answer (period_checks c demand sheet)) (corridor_after way c demand) c
  leaves (run demand sheet) c = corridor_after_periods way c demand (periods_run way c demand sheet)
  leaves (recut pieces new list) c = when_accepted (answer (recut_checks c pieces new list)) (new_corridor c pieces new) c
  leaves (join groups new list) c = when_accepted (answer (join_checks c groups new list)) (joined_corridor c groups new) c

  -- the account of a call: a refused period's is empty, and a run's is that of the periods it completes, each from the corridor that the last
  -- one left
  unfoldable pub account_of : Call → Corridor → Account
  account_of (period demand sheet) c = when_accepted (answer (period_checks c demand sheet)) (row_account way c demand) nothing
  account_of (run demand sheet) c =
      total (periods_run way c demand sheet) λ k. row_account way (corridor_after_periods way c demand k) (demand_row (cells_of c) demand k)
  account_of (recut pieces new list) c = nothing
  account_of (join groups new list) c = nothing

  -- calls in a row, each taking what the last one left, and their account
  unfoldable pub leaves_all : List Call → Corridor → Corridor
  leaves_all [] c = c
  leaves_all (call ∷ calls) c = leaves_all calls (leaves call c)

  unfoldable pub account_of_all : List Call → Corridor → Account
  account_of_all [] c = nothing
  account_of_all (call ∷ calls) c = both (account_of call c) (account_of_all calls (leaves call c))

-- the queue of an on-ramp number
abbrev pub queue_of_ramp : ℕ → Corridor → ℕ
queue_of_ramp ramp c = at_on_ramp c.table ramp (queue_of c)

-- the ramp numbers along the road
abbrev pub ramps_of : Corridor → List ℕ
ramps_of c = ramps c.table
