-- Where every dropped capacity is F, a period does not depend on the modes it starts from. Assumes nothing.
use Prim.Native.Nat.{ℕ, zero, suc, ◌≤◌, ◌<◌, min}
use mathlib.Core.Path.{◌≡◌, refl, ap, sym, ◌∙◌}
use mathlib.Core.Bool.{Bool, true, false}
use mathlib.Core.List.{List}
use native.Mathlib.Omega.{arith}
use borrow.Author.Tests.{ltb-true, ltb-false}
use lib.Dec.{eqb, ltb}
use Rattle.whole.specs.Search.{pick}
use Rattle.layout.specs.Layout.{cells}
use Rattle.layout.specs.Corridor.{Corridor, corridor_of, cells_of, row_of, entry_queue_of, last_mode_of}
use Rattle.layout.proofs.Readers.{state_entry, state_count, state_queue, state_mode}
use Rattle.period.specs.Cell.{mode_of}
use Rattle.period.specs.Sharing.{Sharing}
use Rattle.period.specs.Updated.{updated}
use Rattle.period.specs.Period.{capacity_now, sent_at, offer_at, ramp_offer_at, node_at, flow_at, off_flow_at, mode_at, sheet_of, state_after, corridor_after}
use Rattle.period.proofs.Nodes.{flow_in_is, last_flow_is}
use Rattle.period_laws.specs.Undropped.{Undropped, cell_without_mode, without_modes, SameButModes}
use Rattle.period_laws.proofs.Lists.{same_state, same_sheet}

-- F holds whatever the mode
pub undropped_holds : (c : Corridor) → Undropped c.table → (i : ℕ) → i < cells_of c → capacity_now c i ≡ (row_of c i).capacity
undropped_holds c undropped i h = by (eqb (last_mode_of c i) 1)
  where
    by : (dropped : Bool) → pick dropped (row_of c i).dropped (row_of c i).capacity ≡ (row_of c i).capacity
    by true = undropped.each i h
    by false = refl

-- F holds where every mode is 0, under any table: so a period from there is one of the rule without a drop
pub without_modes_holds : (c : Corridor) (i : ℕ) → i < cells_of c → capacity_now (without_modes c) i ≡ (row_of c i).capacity
unfolding without_modes
without_modes_holds c i h = rw (state_mode (cells_of c) (entry_queue_of c) (cell_without_mode c) i h)

-- it keeps all but the modes
pub without_modes_keeps : (c : Corridor) → SameButModes (cells_of c) c.state (without_modes c).state
unfolding without_modes
without_modes_keeps c =
    record {
      entry = sym (state_entry (cells_of c) (entry_queue_of c) (cell_without_mode c));
      count = λ i h. sym (state_count (cells_of c) (entry_queue_of c) (cell_without_mode c) i h);
      queue = λ i h. sym (state_queue (cells_of c) (entry_queue_of c) (cell_without_mode c) i h);
    }

-- what is brought up to date from one sheet does not depend on the modes before it
same_updated : (n : ℕ) {one other : List ℕ} (demand sheet : List ℕ) → SameButModes n one other → updated n one demand sheet ≡ updated n other demand sheet
unfolding updated
same_updated n demand sheet same =
    same_state n (rw same.entry) λ i h. rw (same.count i h, same.queue i h)

-- Two states under one table that differ in their modes alone: what a period makes of them is the same.

module _ (way : Sharing) (table : List ℕ) (one other demand : List ℕ) (undropped : Undropped table) (same : SameButModes (cells table) one other) where
  abbrev c : Corridor
  c = corridor_of table one

  abbrev d : Corridor
  d = corridor_of table other

  same_capacity : (i : ℕ) → i < cells table → capacity_now c i ≡ capacity_now d i
  same_capacity i h = undropped_holds c undropped i h ∙ sym (undropped_holds d undropped i h)

  same_sent : (i : ℕ) → i < cells table → sent_at c demand i ≡ sent_at d demand i
  same_sent i h = rw (same.count i h)

  same_offer : (p : ℕ) → p ≤ cells table → offer_at c demand p ≡ offer_at d demand p
  same_offer zero h = rw same.entry
  same_offer (suc i) h = λ j. min (same_sent i h j) (same_capacity i h j)

  same_ramp_offer : (i : ℕ) → i < cells table → ramp_offer_at c demand i ≡ ramp_offer_at d demand i
  same_ramp_offer i h = rw (same.queue i h)

  same_node : (i : ℕ) → i < cells table → node_at way c demand i ≡ node_at way d demand i
  unfolding node_at
  same_node i h = λ j. way (row_of c i) (same.count i h j) (same_offer i (omega arith) j) (same_ramp_offer i h j)

  same_flow : (p : ℕ) → p ≤ cells table → flow_at way c demand p ≡ flow_at way d demand p
  same_flow p h = by (ltb p (cells table)) refl
    where
      by : (inside : Bool) → ltb p (cells table) ≡ inside → flow_at way c demand p ≡ flow_at way d demand p
      by true e =
          let k = ltb-true p (cells table) e in
          flow_in_is way c demand p k ∙ ap (λ passed. passed.main) (same_node p k) ∙ sym (flow_in_is way d demand p k)
      by false e =
          let k = ltb-false p (cells table) e in
          last_flow_is way c demand p (omega arith) ∙ same_offer p h ∙ sym (last_flow_is way d demand p (omega arith))

  same_off_flow : (i : ℕ) → i < cells table → off_flow_at way c demand i ≡ off_flow_at way d demand i
  unfolding off_flow_at
  same_off_flow i h = rw (same.count i h, same_flow (suc i) h)

  same_clear : (i : ℕ) (inside : Bool) → ltb (suc i) (cells table) ≡ inside
      → pick inside (node_at way c demand (suc i)).clear true ≡ pick inside (node_at way d demand (suc i)).clear true
  same_clear i true e = ap (λ passed. passed.clear) (same_node (suc i) (ltb-true (suc i) (cells table) e))
  same_clear i false e = refl

  same_mode : (i : ℕ) → i < cells table → mode_at way c demand i ≡ mode_at way d demand i
  unfolding mode_at
  same_mode i h = λ j. mode_of (same_sent i h j) (same_capacity i h j) (same_clear i (ltb (suc i) (cells table)) refl j)

  pub same_sheet_of : sheet_of way c demand ≡ sheet_of way d demand
  unfolding sheet_of
  same_sheet_of = same_sheet (cells table) same_flow same_off_flow (λ i h. ap (λ passed. passed.ramp) (same_node i h)) same_mode

  pub same_state_after : state_after way c demand ≡ state_after way d demand
  unfolding state_after
  same_state_after =
      same_updated (cells table) demand (sheet_of way c demand) same ∙ ap (updated (cells table) other demand) same_sheet_of

-- where every dropped capacity is F, a period is one of the rule without a drop: its flows, and its counts, queues and modes after
pub modes_do_not_matter : (way : Sharing) (c : Corridor) (demand : List ℕ) → Undropped c.table
    → (sheet_of way c demand ≡ sheet_of way (without_modes c) demand) × (state_after way c demand ≡ state_after way (without_modes c) demand)
unfolding without_modes
modes_do_not_matter way c demand undropped =
    let kept = without_modes_keeps c in
    let plain = (without_modes c).state in
    (same_sheet_of way c.table c.state plain demand undropped kept, same_state_after way c.table c.state plain demand undropped kept)

pub after_without_modes : (way : Sharing) (c : Corridor) (demand : List ℕ) → Undropped c.table
    → corridor_after way c demand ≡ corridor_after way (without_modes c) demand
unfolding without_modes
after_without_modes way c demand undropped = ap (corridor_of c.table) (modes_do_not_matter way c demand undropped).1
