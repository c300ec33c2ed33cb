-- From the sheet of an accepted period the state can be brought up to date, and what that leaves is the state after. Assumes nothing.
use Prim.Native.Nat.{ℕ, suc, ◌<◌}
use mathlib.Core.Path.{◌≡◌, ◌∙◌}
use mathlib.Core.List.{List}
use native.Mathlib.Numerals.{add-one}
use native.Mathlib.Omega.{arith}
use Rattle.layout.specs.Corridor.{Corridor, cells_of}
use Rattle.period.specs.Sharing.{Sharing}
use Rattle.period.specs.Updated.{updated}
use Rattle.period.specs.Period.{RowAccepted, sheet_of, state_after, RowDone}
use Rattle.period.specs.Private.{CellUpdatable, Updatable}
use Rattle.period.specs.Fair.{Fair}
use Rattle.period.proofs.Facts.{Facts, facts}
use Rattle.period.proofs.Laws.{what_leaves_is_in_the_cell, what_comes_fits, ramp_of_queue}
use Rattle.period.proofs.Nodes.{flow_of_offer}
use Rattle.period.proofs.Reading.{of_length, of_flow, of_off, of_on}

module _ (way : Sharing) (fair : Fair way) (c : Corridor) (demand : List ℕ) (known : Facts c demand) where
  abbrev sheet : List ℕ
  sheet = sheet_of way c demand

  cell_updatable : (i : ℕ) → i < cells_of c → CellUpdatable (cells_of c) c.state demand sheet i
  cell_updatable i h =
      let t = known.t in
      let s = known.s in
      let d = known.d in
      let flow = of_flow way c demand i (omega arith) in
      let on = of_on way c demand i h in
      record {
        inside = h;
        state_len = known.state_len;
        demand_len = known.demand_len;
        sheet_len = of_length way c demand;
        comes = omega (arith, flow, on, what_comes_fits way fair c demand t s d i h, (s.cells i h).count, (t.rows i h).jam.most);
        leaves =
            rw (add-one, of_flow way c demand (suc i) (omega arith), of_off way c demand i h)
            (what_leaves_is_in_the_cell way fair c demand t s d i h);
        waits = d.queues_within i h;
        enters = rw on (ramp_of_queue way fair c demand t s d i);
      }

  is_updatable : Updatable (cells_of c) c.state demand sheet
  is_updatable =
      record {
        state_len = known.state_len;
        demand_len = known.demand_len;
        sheet_len = of_length way c demand;
        each = cell_updatable;
        waits = known.d.entry_holds;
        enters = rw (of_flow way c demand 0 (omega arith)) (flow_of_offer way fair c demand 0);
      }

pub can_move_on : (way : Sharing) (c : Corridor) (demand : List ℕ) {sheet : List ℕ} {n : ℕ} → Fair way → RowAccepted c demand → sheet ≡ sheet_of way c demand → n ≡ cells_of c → Updatable n c.state demand sheet
can_move_on way c demand fair accepted written all = rw (written, all) (is_updatable way fair c demand (facts c demand accepted))

pub moved_on : (way : Sharing) (c : Corridor) (demand : List ℕ) {sheet state' : List ℕ} {n : ℕ} → sheet ≡ sheet_of way c demand → n ≡ cells_of c → state' ≡ updated n c.state demand sheet → RowDone way c demand state' sheet
unfolding state_after
moved_on way c demand written all is = record { leaves_state = is ∙ rw (written, all); leaves_sheet = written }
