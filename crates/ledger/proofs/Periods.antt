-- A period is sound, and so are the periods that a run completes. Assumes nothing.
use Rattle.std.specs.Prelude.{Ok, Err}
use Prim.Native.Nat.{ℕ, zero, suc, ◌+◌, ◌≤◌, ◌<◌, zero-le}
use mathlib.Core.Path.{◌≡◌, refl, sym, ◌∙◌}
use mathlib.Core.Bool.{Bool, true, false, false≢true}
use mathlib.Core.List.{List}
use native.Mathlib.Omega.{arith}
use lib.Dec.{eqb}
use Rattle.whole.specs.Search.{pick}
use Rattle.whole.proofs.Sums.{sum_of_sums, sum_of_equal_terms}
use Rattle.whole.proofs.Search.{is_first}
use Rattle.refusals.specs.Checks.{Answer, accepted, answer, when_accepted}
use Rattle.layout.specs.Layout.{cells, row_at, on_demand_at}
use Rattle.layout.specs.Corridor.{Corridor, cells_of, queue_of}
use Rattle.accept_rows.specs.Vehicles.{at_on_ramp}
use Rattle.accept_rows.specs.Acceptance.{state_lengths_fit, state_numbers, demand_numbers}
use Rattle.refusals.proofs.Answers.{accepted_passes, accepted_both, lengths_passed}
use Rattle.period.specs.Sharing.{Sharing}
use Rattle.period.specs.Period.{on_flow_at, state_after, corridor_after, period_checks}
use Rattle.period.specs.Fair.{Fair}
use Rattle.period.proofs.Reading.{after_length}
use Rattle.period.proofs.Laws.{queue_balance}
use Rattle.period.proofs.Again.{t, s, d, state_stays_accepted}
use Rattle.period.proofs.Rows.{same_length_fits}
use Rattle.period_run.specs.Run.{rows, demand_row, is_accepted, corridor_after_periods, row_answer, completed, run_checks}
use Rattle.ledger.specs.Account.{nothing, total, row_account}
use Rattle.ledger.specs.Calls.{IsAccepted, period, run, leaves, account_of}
use Rattle.ledger.proofs.Balance.{vehicles_balance}
use Rattle.ledger.proofs.Sound.{Sound, stays, then, CallIsSound}

-- what balances at each cell balances over the cells of an on-ramp number
ramp_balance : (table : List ℕ) (ramp : ℕ) (f g h k : ℕ → ℕ) → ((i : ℕ) → i < cells table → f i + g i ≡ h i + k i) → at_on_ramp table ramp f + at_on_ramp table ramp g ≡ at_on_ramp table ramp h + at_on_ramp table ramp k
ramp_balance table ramp f g h k each =
    sym (sum_of_sums (cells table) _ _)
    ∙ sum_of_equal_terms (cells table) _ _ (λ i below. by (eqb (row_at table i).on ramp) (f i) (g i) (h i) (k i) (each i below))
    ∙ sum_of_sums (cells table) _ _
  where
    by : (b : Bool) (f g h k : ℕ) → f + g ≡ h + k → pick b f 0 + pick b g 0 ≡ pick b h 0 + pick b k 0
    by true f g h k e = e
    by false f g h k e = refl

-- what acceptance says in parts
fits : (c : Corridor) → IsAccepted c → state_lengths_fit c ≡ true
fits c e = (accepted_passes _ _ e).0 0 (omega arith)

numbers : (c : Corridor) → IsAccepted c → answer (state_numbers c) ≡ accepted
numbers c e = (accepted_passes _ _ e).1

module _ (way : Sharing) (fair : Fair way) where
  -- one accepted demand row
  row_is_sound : (c : Corridor) (demand : List ℕ) → IsAccepted c → answer (demand_numbers c demand) ≡ accepted → Sound c (corridor_after way c demand) (row_account way c demand)
  row_is_sound c demand e row =
      let accepted = numbers c e in
      let fit-table = t way fair c demand accepted row in
      let fit-state = s way fair c demand accepted row in
      let Fit-row = d way fair c demand accepted row in
      record {
        accepted =
            lengths_passed (state_numbers (corridor_after way c demand)) (same_length_fits c (state_after way c demand) (fits c e) (after_length way c demand))
            ∙ state_stays_accepted way fair c demand accepted row;
        balance = vehicles_balance way fair c demand fit-table fit-state Fit-row;
        queues = λ ramp. ramp_balance c.table ramp (queue_of (corridor_after way c demand)) (on_flow_at way c demand) (queue_of c) (on_demand_at demand)
            (queue_balance way fair c demand fit-table fit-state Fit-row);
        ramps = refl;
      }

  pub period_is_sound : (demand sheet : List ℕ) → CallIsSound way (period demand sheet)
  unfolding leaves account_of
  period_is_sound demand sheet c e = by (answer (period_checks c demand sheet)) refl
    where
      by : (a : Answer) → answer (period_checks c demand sheet) ≡ a → Sound c (when_accepted a (corridor_after way c demand) c) (when_accepted a (row_account way c demand) nothing)
      by (Err refusal) h = stays c e
      by (Ok done) h = row_is_sound c demand e (accepted_both (state_numbers c) (demand_numbers c demand) (accepted_passes _ _ h).1).1

  accepted_is : (a : Answer) → is_accepted a ≡ true → a ≡ accepted
  accepted_is (Ok done) e = refl
  accepted_is (Err refusal) e = absurd (false≢true e)

  -- the first k periods of a run
  module _ (c : Corridor) (demand : List ℕ) (e : IsAccepted c) where
    abbrev after : ℕ → Corridor
    after = corridor_after_periods way c demand

    abbrev row : ℕ → List ℕ
    row = demand_row (cells_of c) demand

    rows_are_sound : (k : ℕ) → k ≤ completed way c demand → Sound c (after k) (total k (λ i. row_account way (after i) (row i)))
    unfolding corridor_after_periods total
    rows_are_sound zero h = stays c e
    rows_are_sound (suc k) h =
        let before = rows_are_sound k (omega arith) in
        then before
        (row_is_sound (after k) (row k) before.accepted
        (accepted_is (row_answer way c demand k) ((is_first (rows (cells_of c) demand) (λ i. is_accepted (row_answer way c demand i))).before k h)))

  pub run_is_sound : (demand sheet : List ℕ) → CallIsSound way (run demand sheet)
  unfolding leaves account_of
  run_is_sound demand sheet c e = rows_are_sound c demand e _ (by (answer (run_checks c demand sheet)))
    where
      by : (a : Answer) → when_accepted a (completed way c demand) 0 ≤ completed way c demand
      by (Err refusal) = zero-le
      by (Ok done) = omega arith
