-- What an accepted period is known to start from. Assumes nothing.
use mathlib.Core.Path.{◌≡◌}
use mathlib.Core.List.{List, [], ◌∷◌}
use Prim.Native.Nat.{ℕ, ◌<◌}
use lib.ListN.{length}
use native.Mathlib.Omega.{arith}
use Rattle.layout.specs.Layout.{state_length, demand_length}
use Rattle.accept_tables.specs.Tables.{table_numbers}
use Rattle.accept_rows.specs.Acceptance.{state_lengths_fit, state_in_range, state_numbers, demand_numbers}
use Rattle.refusals.proofs.Answers.{accepted_passes, accepted_both}
use Rattle.accept_ranges.proofs.Ranges.{with_ramp_at_most}
use Rattle.accept_rows.proofs.Lengths.{cells_fit, table_length_lem, row_lengths}
use Rattle.whole.proofs.Tests.{both_hold}
use Rattle.accept_tables.proofs.Accepted.{TableFits, table_fits}
use Rattle.accept_rows.proofs.Accepted.{StateFits, RowFits, state_fits_lem, row_fits}
use Rattle.period.specs.Period.{RowAccepted}
use Rattle.period.specs.Private.{Workable}
use Rattle.period.specs.declared.passes.Start.{Start}
use Rattle.period.specs.Starts.{corridor}
use Rattle.layout.specs.Corridor.{Corridor, cells_of, row_of}

pub record Facts (c : Corridor) (demand : List ℕ) : Type 0 where
  pub state_len : length c.state ≡ state_length (cells_of c)
  pub demand_len : length demand ≡ demand_length (cells_of c)
  pub t : TableFits c.table
  pub s : StateFits c
  pub d : RowFits c demand

pub facts : (c : Corridor) (demand : List ℕ) → RowAccepted c demand → Facts c demand
facts c demand e =
    let checks = accepted_passes _ _ e in
    let numbers = accepted_both (state_numbers c) (demand_numbers c demand) checks.1 in
    let lengths = row_lengths c demand (checks.0 0 (omega arith)) in
    record {
      state_len = lengths.0;
      demand_len = lengths.1;
      t = table_fits c.table (accepted_both (table_numbers c.table) (state_in_range c ∷ []) numbers.0).0;
      s = state_fits_lem c numbers.0;
      d = row_fits c demand numbers.1;
    }

-- an accepted table has a cell
pub some_cell : {n : ℕ} (c : Corridor) (demand : List ℕ) → RowAccepted c demand → n ≡ cells_of c → 0 < n
some_cell c demand e all =
    let fits = (accepted_passes _ _ e).0 0 (omega arith) in
    omega (arith, (cells_fit c.table (table_length_lem c (both_hold (state_lengths_fit c) _ fits).0)).least)

-- what the work on one cell asks
pub workable : {c : Corridor} {demand : List ℕ} {n i : ℕ} → Facts c demand → n ≡ cells_of c → i < cells_of c → Workable n c demand i
workable {c} {i = i} known all h =
    let row = known.t.rows i h in
    record {
      all = all;
      inside = omega arith;
      state_len = rw all known.state_len;
      demand_len = rw all known.demand_len;
      v = row.v.most;
      b = omega (arith, row.b.most, with_ramp_at_most (row_of c i).off 65_535);
      count = (known.s.cells i h).count;
    }

-- the same where a period starts
pub works : (start : Start) {i : ℕ} → i < start.n → Workable start.n (corridor start) start.demand.now i
works start h = workable (facts (corridor start) start.demand.now start.row_accepted) start.all (omega (arith, start.all))
