-- The state after an accepted period is accepted again. Assumes nothing.
use Prim.Native.Nat.{ℕ, zero, suc, ◌+◌, ◌≤◌, ◌<◌}
use mathlib.Core.Path.{◌≡◌, refl}
use mathlib.Core.Bool.{Bool, true, false}
use mathlib.Core.List.{List, [], ◌∷◌}
use native.Mathlib.Omega.{arith}
use borrow.Author.Tests.{le-leb}
use lib.Dec.{eqb}
use Rattle.whole.specs.Search.{pick}
use Rattle.whole.proofs.Search.{Passes}
use Rattle.refusals.specs.Checks.{accepted, answer}
use Rattle.layout.specs.Layout.{on_demand_at}
use Rattle.layout.specs.Corridor.{Corridor, cells_of, row_of, entry_queue_of, queue_of, cell_of}
use Rattle.accept_ranges.specs.Ranges.{queue_limit, demand_limit}
use Rattle.accept_ranges.proofs.Ranges.{fits_cell}
use Rattle.accept_tables.specs.Tables.{table_numbers}
use Rattle.accept_rows.specs.Acceptance.{state_in_range, state_numbers, demand_numbers}
use Rattle.refusals.proofs.Answers.{accepted_both, both_accepted, passes_accepted}
use Rattle.accept_tables.proofs.Accepted.{TableFits, table_fits}
use Rattle.accept_rows.proofs.Accepted.{StateFits, RowFits, state_fits_lem, row_fits}
use Rattle.period.specs.Sharing.{Sharing}
use Rattle.period.specs.Period.{corridor_after}
use Rattle.period.specs.Fair.{Fair}
use Rattle.period.proofs.Nodes.{mode_at_most_one}
use Rattle.period.proofs.Reading.{after_mode}
use Rattle.period.proofs.Laws.{entry_balance, queue_balance, count_stays_within}

module _ (way : Sharing) (fair : Fair way) (c : Corridor) (demand : List ℕ) (before : answer (state_numbers c) ≡ accepted) (row : answer (demand_numbers c demand) ≡ accepted) where
  table_accepted : answer (table_numbers c.table) ≡ accepted
  table_accepted = (accepted_both (table_numbers c.table) (state_in_range c ∷ []) before).0

  pub t : TableFits c.table
  t = table_fits c.table table_accepted

  pub s : StateFits c
  s = state_fits_lem c before

  pub d : RowFits c demand
  d = row_fits c demand row

  abbrev after : Corridor
  after = corridor_after way c demand

  queue_stays_within : (i : ℕ) → i < cells_of c → (none : Bool) → queue_of c i ≤ pick none 0 queue_limit → on_demand_at demand i ≤ pick none 0 demand_limit → queue_of after i ≤ pick none 0 queue_limit
  queue_stays_within i h true q e = omega (arith, queue_balance way fair c demand t s d i h)
  queue_stays_within i h false q e = omega (arith, queue_balance way fair c demand t s d i h, d.queues_within i h)

  stays_in_range : Passes (cells_of c + 1) (state_in_range after).test
  stays_in_range zero h =
      le-leb (entry_queue_of after) queue_limit (omega (arith, entry_balance way fair c demand t s d, d.entry_holds))
  stays_in_range (suc i) h =
      let below : i < cells_of c = omega arith in
      fits_cell (row_of c i) (cell_of after i)
      (record {
        count = count_stays_within way fair c demand t s d i below;
        queue = queue_stays_within i below (eqb (row_of c i).on 0) (s.cells i below).queue (d.ons i below);
        mode = omega (arith, after_mode way c demand i below, mode_at_most_one way c demand i);
      })

  pub state_stays_accepted : answer (state_numbers (corridor_after way c demand)) ≡ accepted
  state_stays_accepted =
      both_accepted (table_numbers c.table) (state_in_range after ∷ []) table_accepted
      (passes_accepted (state_in_range after) accepted stays_in_range refl)
