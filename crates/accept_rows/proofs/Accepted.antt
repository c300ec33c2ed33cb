-- What an accepted state and demand row say of each cell. Assumes nothing.
use Prim.Native.Nat.{ℕ, suc, ◌+◌, ◌≤◌, ◌<◌}
use mathlib.Core.Path.{◌≡◌, refl, sym}
use mathlib.Core.Bool.{true, ◌&&◌}
use mathlib.Core.List.{List, [], ◌∷◌}
use native.Mathlib.Omega.{arith}
use borrow.Author.Tests.{leb-true}
use lib.Dec.{leb}
use Rattle.whole.specs.Search.{every}
use Rattle.whole.proofs.Search.{passes_every}
use Rattle.layout.specs.Layout.{entry_demand, on_demand_at, off_demand_at}
use Rattle.refusals.specs.Checks.{Check, accepted, answer}
use Rattle.accept_ranges.specs.Ranges.{with_ramp, given_off, queue_limit, demand_limit}
use Rattle.accept_ranges.proofs.Ranges.{CellFits, cell_fits_lem}
use Rattle.accept_tables.specs.Tables.{table_numbers}
use Rattle.accept_rows.specs.Acceptance.{state_in_range, state_numbers, demand_numbers}
use Rattle.refusals.proofs.Answers.{accepted_passes, passes_accepted, accepted_both}
use Rattle.whole.proofs.Tests.{both_hold}
use Rattle.layout.specs.Corridor.{Corridor, cells_of, row_of, entry_queue_of, queue_of, cell_of}

pub record StateFits (c : Corridor) : Type 0 where
  pub entry : entry_queue_of c ≤ queue_limit
  pub cells : (i : ℕ) → i < cells_of c → CellFits (row_of c i) (cell_of c i)

pub record RowFits (c : Corridor) (demand : List ℕ) : Type 0 where
  pub entry : entry_demand demand ≤ demand_limit
  pub ons : (i : ℕ) → i < cells_of c → on_demand_at demand i ≤ with_ramp (row_of c i).on demand_limit
  pub offs : (i : ℕ) → i < cells_of c → off_demand_at (cells_of c) demand i ≤ given_off (row_of c i)
  pub entry_holds : entry_queue_of c + entry_demand demand ≤ queue_limit
  pub queues_within : (i : ℕ) → i < cells_of c → queue_of c i + on_demand_at demand i ≤ queue_limit

pub state_fits_lem : (c : Corridor) → answer (state_numbers c) ≡ accepted → StateFits c
state_fits_lem c e =
    let passed = (accepted_passes _ _ (accepted_both (table_numbers c.table) (state_in_range c ∷ []) e).1).0 in
    record {
      entry = leb-true _ _ (passed 0 (omega arith));
      cells = λ i h. cell_fits_lem (row_of c i) (cell_of c i) (passed (suc i) (omega arith));
    }

pub row_fits : (c : Corridor) (demand : List ℕ) → answer (demand_numbers c demand) ≡ accepted → RowFits c demand
row_fits c demand e =
    let ranges = accepted_passes _ _ e in
    let holds = accepted_passes _ _ ranges.1 in
    record {
      entry = leb-true _ _ (ranges.0 0 (omega arith));
      ons = λ i h. leb-true _ _ (both_hold _ _ (ranges.0 (suc i) (omega arith))).0;
      offs = λ i h. leb-true _ _ (both_hold (leb (on_demand_at demand i) (with_ramp (row_of c i).on demand_limit)) _ (ranges.0 (suc i) (omega arith))).1;
      entry_holds = leb-true _ _ (holds.0 0 (omega arith));
      queues_within = λ i h. leb-true _ _ (holds.0 (suc i) (omega arith));
    }

-- two checks of the same places that pass at each, walked over in one
pub both_pass : (first second : Check) → first.places ≡ second.places → true ≡ every first.places (λ p. first.test p && second.test p) → accepted ≡ answer (first ∷ second ∷ [])
both_pass first second n e =
    sym (passes_accepted first (answer (second ∷ [])) (λ p h. (passed p h).0) (passes_accepted second accepted (rw (sym n) (λ p h. (passed p h).1)) refl))
  where
    passed : (p : ℕ) → p < first.places → (first.test p ≡ true) × (second.test p ≡ true)
    passed p h = both_hold (first.test p) (second.test p) (passes_every first.places (λ p. first.test p && second.test p) (sym e) p h)
