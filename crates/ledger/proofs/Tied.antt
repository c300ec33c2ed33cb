-- The ledger and the promises: whatever a call that a promise allows leaves is what `leaves` says of it. Assumes nothing.
use Rattle.std.specs.Prelude.{Ok, Err}
use Prim.Native.Nat.{ℕ, zero, suc}
use mathlib.Core.Path.{◌≡◌, refl, ap, ◌∙◌}
use mathlib.Core.List.{List}
use Rattle.refusals.specs.Checks.{Answer, Check, answer, when_accepted}
use Rattle.layout.specs.Corridor.{Corridor, corridor_of}
use Rattle.period.specs.Sharing.{Sharing}
use Rattle.period.specs.Period.{state_after, corridor_after, period_checks, PeriodDone}
use Rattle.period_run.specs.declared.Ran.{Ran}
use Rattle.period_run.specs.Run.{corridor_after_periods, periods_run, RunDone}
use Rattle.recut_checks.specs.Change.{ChangeDone}
use Rattle.recut.specs.Recut.{RecutDone}
use Rattle.join.specs.Join.{JoinDone}
use Rattle.ledger.specs.Calls.{period, run, recut, join, leaves}

module _ (way : Sharing) (c : Corridor) where
  -- a period leaves its table and the state that its promise tells
  pub period_leaves : {demand sheet state_left sheet_left : List ℕ} {a : Answer} → PeriodDone way c demand sheet a state_left sheet_left → corridor_of c.table state_left ≡ leaves way (period demand sheet) c
  unfolding leaves
  period_leaves {demand} {sheet} done = ap (corridor_of c.table) done.leaves_state ∙ by (answer (period_checks c demand sheet))
    where
      by : (a : Answer) → corridor_of c.table (when_accepted a (state_after way c demand) c.state) ≡ when_accepted a (corridor_after way c demand) c
      by (Ok done) = refl
      by (Err refusal) = refl

  -- so does a run
  same_table : (demand : List ℕ) (k : ℕ) → corridor_of c.table (corridor_after_periods way c demand k).state ≡ corridor_after_periods way c demand k
  unfolding corridor_after_periods
  same_table demand zero = refl
  same_table demand (suc k) = ap (λ corridor. corridor_of corridor.table (corridor_after_periods way c demand (suc k)).state) (same_table demand k)

  pub run_leaves : {demand sheet state_left sheet_left : List ℕ} {ran : Ran} → RunDone way c demand sheet ran state_left sheet_left → corridor_of c.table state_left ≡ leaves way (run demand sheet) c
  unfolding leaves
  run_leaves {demand} {sheet} done = ap (corridor_of c.table) done.leaves_state ∙ same_table demand (periods_run way c demand sheet)

  -- a re-cut or a join that is accepted leaves the new table and the state in the list; one that is refused leaves the corridor
  change_leaves : (new : List ℕ) {checks : List Check} {made list left : List ℕ} {a : Answer} → ChangeDone checks made list a left
      → when_accepted a (corridor_of new left) c ≡ when_accepted (answer checks) (corridor_of new made) c
  change_leaves new {checks} {made} {list} done = rw (done.answered, done.leaves) (by (answer checks))
    where
      by : (a : Answer) → when_accepted a (corridor_of new (when_accepted a made list)) c ≡ when_accepted a (corridor_of new made) c
      by (Ok done) = refl
      by (Err refusal) = refl

  pub recut_leaves : (pieces new list : List ℕ) {left : List ℕ} {a : Answer} → RecutDone c pieces new list a left
      → when_accepted a (corridor_of new left) c ≡ leaves way (recut pieces new list) c
  unfolding leaves
  recut_leaves pieces new list = change_leaves new

  pub join_leaves : (groups new list : List ℕ) {left : List ℕ} {a : Answer} → JoinDone c groups new list a left
      → when_accepted a (corridor_of new left) c ≡ leaves way (join groups new list) c
  unfolding leaves
  join_leaves groups new list = change_leaves new
