-- What stands where in the sheet of a period and in the state after it. Assumes nothing.
use Prim.Native.Nat.{ℕ, suc, ◌+◌, ◌-◌, ◌≤◌, ◌<◌}
use mathlib.Core.Path.{◌≡◌, ap, ap₂, ◌∙◌}
use mathlib.Core.List.{List}
use native.Mathlib.Numerals.{add-one}
use native.Mathlib.Omega.{arith}
use lib.ListN.{length}
use Rattle.layout.specs.Layout.{state_length, entry_demand, on_demand_at}
use Rattle.layout.specs.Sheet.{sheet_length, flow_in, off_flow_in, on_flow_in, mode_in}
use Rattle.layout.specs.Corridor.{Corridor, cells_of, entry_queue_of, count_of, queue_of, last_mode_of}
use Rattle.layout.proofs.Readers.{state_length_lem, state_entry, state_count, state_queue, state_mode, sheet_length_lem, sheet_flow, sheet_off, sheet_on, sheet_mode}
use Rattle.period.specs.Sharing.{Sharing}
use Rattle.period.specs.Updated.{entry_queue_after, cell_after, updated}
use Rattle.period.specs.Period.{flow_at, off_flow_at, on_flow_at, mode_at, sheet_of, state_after, corridor_after}

module _ (way : Sharing) (c : Corridor) (demand : List ℕ) where
  pub of_length : length (sheet_of way c demand) ≡ sheet_length (cells_of c)
  unfolding sheet_of
  of_length = sheet_length_lem (cells_of c) (flow_at way c demand) (off_flow_at way c demand) (on_flow_at way c demand) (mode_at way c demand)

  pub of_flow : (p : ℕ) → p ≤ cells_of c → flow_in (sheet_of way c demand) p ≡ flow_at way c demand p
  unfolding sheet_of
  of_flow = sheet_flow (cells_of c) (flow_at way c demand) (off_flow_at way c demand) (on_flow_at way c demand) (mode_at way c demand)

  pub of_off : (i : ℕ) → i < cells_of c → off_flow_in (cells_of c) (sheet_of way c demand) i ≡ off_flow_at way c demand i
  unfolding sheet_of
  of_off = sheet_off (cells_of c) (flow_at way c demand) (off_flow_at way c demand) (on_flow_at way c demand) (mode_at way c demand)

  pub of_on : (i : ℕ) → i < cells_of c → on_flow_in (cells_of c) (sheet_of way c demand) i ≡ on_flow_at way c demand i
  unfolding sheet_of
  of_on = sheet_on (cells_of c) (flow_at way c demand) (off_flow_at way c demand) (on_flow_at way c demand) (mode_at way c demand)

  pub of_mode : (i : ℕ) → i < cells_of c → mode_in (cells_of c) (sheet_of way c demand) i ≡ mode_at way c demand i
  unfolding sheet_of
  of_mode = sheet_mode (cells_of c) (flow_at way c demand) (off_flow_at way c demand) (on_flow_at way c demand) (mode_at way c demand)

  abbrev sheet : List ℕ
  sheet = sheet_of way c demand

  pub after_length : length (state_after way c demand) ≡ state_length (cells_of c)
  unfolding state_after updated
  after_length = state_length_lem (cells_of c) (entry_queue_after (cells_of c) c.state demand sheet) (cell_after (cells_of c) c.state demand sheet)

  pub after_entry : entry_queue_of (corridor_after way c demand) ≡ entry_queue_of c + entry_demand demand - flow_at way c demand 0
  unfolding state_after updated
  after_entry =
      state_entry (cells_of c) (entry_queue_after (cells_of c) c.state demand sheet) (cell_after (cells_of c) c.state demand sheet)
      ∙ ap (λ flow. entry_queue_of c + entry_demand demand - flow) (of_flow 0 (omega arith))

  pub after_count : (i : ℕ) → i < cells_of c → count_of (corridor_after way c demand) i ≡ count_of c i + flow_at way c demand i + on_flow_at way c demand i - (flow_at way c demand (suc i) + off_flow_at way c demand i)
  unfolding state_after updated
  after_count i h =
      state_count (cells_of c) (entry_queue_after (cells_of c) c.state demand sheet) (cell_after (cells_of c) c.state demand sheet) i h
      ∙ ap₂ (λ a b. a - b) (ap₂ (λ a b. count_of c i + a + b) (of_flow i (omega arith)) (of_on i h)) (ap₂ (λ a b. a + b) (rw add-one (of_flow (suc i) (omega arith))) (of_off i h))

  pub after_queue : (i : ℕ) → i < cells_of c → queue_of (corridor_after way c demand) i ≡ queue_of c i + on_demand_at demand i - on_flow_at way c demand i
  unfolding state_after updated
  after_queue i h =
      state_queue (cells_of c) (entry_queue_after (cells_of c) c.state demand sheet) (cell_after (cells_of c) c.state demand sheet) i h
      ∙ ap (λ flow. queue_of c i + on_demand_at demand i - flow) (of_on i h)

  pub after_mode : (i : ℕ) → i < cells_of c → last_mode_of (corridor_after way c demand) i ≡ mode_at way c demand i
  unfolding state_after updated
  after_mode i h =
      state_mode (cells_of c) (entry_queue_after (cells_of c) c.state demand sheet) (cell_after (cells_of c) c.state demand sheet) i h
      ∙ of_mode i h
