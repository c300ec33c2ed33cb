-- The state as it is brought up to date from the last cell up the road: the cells from one on are those after the period, the others and the
-- entry are as they were. Assumes nothing.
use Prim.Native.Nat.{ℕ, ◌+◌, ◌-◌, ◌≤◌, ◌<◌}
use mathlib.Core.Path.{◌≡◌, refl, ap, ◌∙◌}
use mathlib.Core.List.{List}
use native.Mathlib.Omega.{arith}
use Rattle.layout.specs.declared.Cell.{Cell}
use Rattle.layout.specs.Laid.{with_entry}
use Rattle.layout.specs.Layout.{entry_queue, count_at, queue_at, cell_at, state_columns, state_of, with_cell, entry_demand}
use Rattle.layout.specs.Sheet.{flow_in}
use Rattle.layout.proofs.Laid.{Laying, laying_none, laying_whole}
use Rattle.layout.proofs.States.{as_it_stands, cell_is, cell_stored, entry_stays}
use Rattle.period.specs.Updated.{cell_after, updated}
use Rattle.period.specs.Private.{CellUpdatable, Updatable}

module _ (n : ℕ) (old demand sheet : List ℕ) where
  -- a cell as it was, and after the period
  abbrev before : ℕ → Cell
  before = cell_at n old

  abbrev after : ℕ → Cell
  after = cell_after n old demand sheet

  pub record UpdatedFrom (now : List ℕ) (i : ℕ) : Type 0 where
    pub asked : Updatable n old demand sheet
    pub reaches : i ≤ n
    pub laid : Laying (λ k. i ≤ k) n now (state_columns after)
    pub kept : Laying (λ k. k < i) n now (state_columns before)
    pub entry : entry_queue now ≡ entry_queue old

  pub begins : Updatable n old demand sheet → UpdatedFrom old n
  begins asked =
      record {
        asked = asked;
        reaches = omega arith;
        laid = laying_none n old (state_columns after) (λ k below meant. omega arith) (omega (arith, asked.state_len));
        kept = as_it_stands n old asked.state_len;
        entry = refl;
      }

  module _ {now : List ℕ} {i : ℕ} (so : UpdatedFrom now i) (some : 0 < i) where
    inside : i - 1 < n
    inside = omega (arith, so.reaches)

    same_cell : cell_at n now (i - 1) ≡ cell_at n old (i - 1)
    same_cell = cell_is n now before so.kept (i - 1) inside (omega arith)

    same_count : count_at now (i - 1) ≡ count_at old (i - 1)
    same_count = ap (λ cell. cell.count) same_cell

    same_queue : queue_at n now (i - 1) ≡ queue_at n old (i - 1)
    same_queue = ap (λ cell. cell.queue) same_cell

    -- the next cell up the road can be brought up to date
    pub cell_asks : CellUpdatable n now demand sheet (i - 1)
    cell_asks =
        let asked = so.asked.each (i - 1) inside in
        record {
          inside = inside;
          state_len = omega (arith, so.kept.len);
          demand_len = so.asked.demand_len;
          sheet_len = so.asked.sheet_len;
          comes = rw same_count asked.comes;
          leaves = rw same_count asked.leaves;
          waits = rw same_queue asked.waits;
          enters = rw same_queue asked.enters;
        }

    pub goes_on : {now' : List ℕ} {cell : Cell} → cell ≡ cell_after n now demand sheet (i - 1) → now' ≡ with_cell n now (i - 1) cell → UpdatedFrom now' (i - 1)
    goes_on {cell = cell} is stored =
        let own : cell ≡ after (i - 1) = is ∙ rw (same_count, same_queue) in
        record {
          asked = so.asked;
          reaches = omega (arith, so.reaches);
          laid =
              rw stored
              (cell_stored n now after so.laid inside (λ k meant other. omega (arith, other)) (λ _. own));
          kept =
              rw stored
              (cell_stored n now before so.kept inside (λ k meant other. omega arith) (λ meant. absurd (omega arith)));
          entry = ap entry_queue stored ∙ entry_stays n now (i - 1) cell ∙ so.entry;
        }

  -- with Q the state is whole
  pub ends : {now now' : List ℕ} {i q d f : ℕ} → UpdatedFrom now i → i ≤ 0 → q ≡ entry_queue now → d ≡ entry_demand demand → f ≡ flow_in sheet 0 → now' ≡ with_entry now (q + d - f) → now' ≡ updated n old demand sheet
  unfolding updated state_of
  ends {now} so first q d f stored =
      stored ∙ rw (q, d, f, so.entry) (laying_whole n now (state_columns after) so.laid (λ k below. omega arith))

  -- what Q asks
  pub entry_asks : {now : List ℕ} {i q d f : ℕ} → UpdatedFrom now i → q ≡ entry_queue now → d ≡ entry_demand demand → f ≡ flow_in sheet 0 → (q + d ≤ 1_000_000_000) × (f ≤ q + d)
  entry_asks so q d f = omega (arith, so.asked.waits, so.asked.enters, so.entry)
