use Rattle.std.proofs.Common.{◌≡◌, true, List, ℕ, length, arith, sym, ap, ◌∙◌}
use Rattle.whole.proofs.Tests.{both_hold}
use Rattle.layout.specs.Layout.{cells, row_at, state_length, demand_length}
use Rattle.layout.specs.Corridor.{corridor_of}
use Rattle.layout.proofs.Readers.{demand_length_lem}
use Rattle.accept_ranges.specs.Ranges.{queue_limit}
use Rattle.accept_ranges.proofs.Ranges.{with_ramp_at_most}
use Rattle.accept_rows.specs.Acceptance.{row_lengths_fit}
use Rattle.accept_rows.proofs.Lengths.{row_lengths}
use Rattle.accept_rows.proofs.Accepted.{state_fits_lem}
use Rattle.accept_limits.proofs.Passing.{row_passes}
use Rattle.accept_limits.proofs.accept_demand.Goals as goal

long : (table state demand : List ℕ) → row_lengths_fit (corridor_of table state) demand ≡ true → let n = cells table in (length state ≡ state_length n) × (length demand ≡ demand_length n)
long table state demand e = row_lengths (corridor_of table state) demand e

pub within_limits-requires : goal.within_limits-requires
within_limits-requires c =
    ap length c.requires.limits_value ∙ demand_length_lem _ _ _ ∙ sym (long _ _ _ c.requires.demand_value).1

pub queues_hold-requires-clause-by_index : goal.queues_hold-requires-clause-by_index
queues_hold-requires-clause-by_index c =
    let table = c.args.table.now in
    let queues = (state_fits_lem (corridor_of table c.args.state.now) c.requires.state_value).cells in
    rw c.cells.ensures (λ i h. omega (arith, (queues i h).queue, with_ramp_at_most (row_at table i).on queue_limit))

pub returns-then-within_limits-queue_holds : goal.returns-then-within_limits-queue_holds
returns-then-within_limits-queue_holds c =
    let both = both_hold _ _ c.if-within_limits-queue_holds.true in
    let first = both_hold _ _ both.0 in
    row_passes (corridor_of c.args.table.now c.args.state.now) c.args.demand.now c.requires.demand_value
    (rw c.requires.limits_value at (sym c.within_limits.ensures ∙ first.0))
    (rw (c.entry_queue.ensures, c.entry_demand.ensures) at (sym c.queue_holds.ensures ∙ first.1))
    (rw c.cells.ensures at (sym c.queues_hold.ensures ∙ both.1))
