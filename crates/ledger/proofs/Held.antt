-- What an accepted table and state hold, clause by clause. Assumes nothing.
use Prim.Native.Nat.{ℕ, ◌≤◌, ◌<◌}
use mathlib.Core.Path.{◌≡◌, refl, sym, ap, ◌∙◌}
use mathlib.Core.Bool.{Bool, true, false, not, ◌||◌, false≢true}
use mathlib.Core.List.{[], ◌∷◌}
use borrow.Author.Tests.{eq-eqb, eqb-true}
use lib.Dec.{eqb}
use Rattle.whole.specs.Search.{every}
use Rattle.whole.proofs.Search.{every_fails}
use Rattle.refusals.specs.Checks.{accepted, answer}
use Rattle.layout.specs.Layout.{ramp_positions, ramp_at}
use Rattle.layout.specs.Corridor.{Corridor, cells_of, row_of, entry_queue_of, count_of, queue_of, last_mode_of}
use Rattle.accept_ranges.specs.Ranges.{with_ramp, queue_limit}
use Rattle.accept_tables.specs.Tables.{table_numbers}
use Rattle.accept_rows.specs.Acceptance.{state_in_range, state_numbers}
use Rattle.accept_rows.proofs.Accepted.{state_fits_lem}
use Rattle.refusals.proofs.Answers.{accepted_passes, accepted_both}
use Rattle.ledger.specs.Calls.{IsAccepted}

module _ (c : Corridor) (e : IsAccepted c) where
  numbers : answer (state_numbers c) ≡ accepted
  numbers = (accepted_passes _ _ e).1

  pub counts_held : (i : ℕ) → i < cells_of c → count_of c i ≤ (row_of c i).jam
  counts_held i h = ((state_fits_lem c numbers).cells i h).count

  pub entry_held : entry_queue_of c ≤ queue_limit
  entry_held = (state_fits_lem c numbers).entry

  pub queues_held : (i : ℕ) → i < cells_of c → queue_of c i ≤ with_ramp (row_of c i).on queue_limit
  queues_held i h = ((state_fits_lem c numbers).cells i h).queue

  pub modes_held : (i : ℕ) → i < cells_of c → last_mode_of c i ≤ 1
  modes_held i h = ((state_fits_lem c numbers).cells i h).mode

  -- number 4 has passed at the later position
  pub ramps_held_once : (j k : ℕ) → j < k → k < ramp_positions (cells_of c) → ramp_at c.table j ≡ ramp_at c.table k → ramp_at c.table k ≡ 0
  ramps_held_once j k before inside same = by (eqb (ramp_at c.table k) 0) refl (new k inside)
    where
      table_passes : answer (table_numbers c.table) ≡ accepted
      table_passes = (accepted_both (table_numbers c.table) (state_in_range c ∷ []) numbers).0

      new : (k : ℕ) → k < ramp_positions (cells_of c) → (eqb (ramp_at c.table k) 0 || every k (λ j. not (eqb (ramp_at c.table j) (ramp_at c.table k)))) ≡ true
      new = (accepted_passes _ _ (accepted_passes _ _ (accepted_passes _ _ table_passes).1).1).0

      by : (none : Bool) → eqb (ramp_at c.table k) 0 ≡ none → (none || every k (λ j. not (eqb (ramp_at c.table j) (ramp_at c.table k)))) ≡ true → ramp_at c.table k ≡ 0
      by true is h = eqb-true _ _ is
      by false is h =
          absurd
          (false≢true (sym (every_fails k (λ j. not (eqb (ramp_at c.table j) (ramp_at c.table k))) j before (ap not (eq-eqb _ _ same))) ∙ h))
