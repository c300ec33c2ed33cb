-- A demand row within its limits, whose queues hold, passes 6 and 7. Assumes nothing.
use Prim.Native.Nat.{ℕ, zero, suc, ◌+◌, ◌<◌}
use mathlib.Core.Path.{◌≡◌, refl, sym, ap₂, ◌∙◌}
use mathlib.Core.Bool.{Bool, true, ◌&&◌}
use mathlib.Core.List.{List, [], ◌∷◌}
use native.Mathlib.Omega.{arith}
use lib.Dec.{leb}
use lib.ListN.{length, get_or}
use Rattle.whole.specs.Search.{every}
use Rattle.whole.proofs.Search.{Passes, passes_every}
use Rattle.refusals.specs.Checks.{accepted, answer}
use Rattle.refusals.proofs.Answers.{lengths_passed, passes_accepted}
use Rattle.layout.specs.declared.Demands.{Demands}
use Rattle.layout.specs.Layout.{demand_length, entry_demand, on_demand_at}
use Rattle.layout.specs.Corridor.{Corridor, cells_of, row_of, entry_queue_of, queue_of}
use Rattle.layout.proofs.Readers.{demand_entry, demand_on, demand_off}
use Rattle.accept_ranges.specs.Ranges.{demand_limit, queue_holds}
use Rattle.accept_rows.specs.Acceptance.{row_lengths_fit, demand_in_range, queues_hold, demand_numbers, demand_checks}
use Rattle.accept_rows.proofs.Lengths.{row_lengths}
use Rattle.accept_limits.specs.Limits.{cell_limits, demand_limits}

-- each number of a row is within its limit
abbrev pub WithinLimits : List ℕ → List ℕ → Bool
WithinLimits table demand = every (length demand) λ i. leb (get_or demand i 0) (get_or (demand_limits table) i 0)

module _ (c : Corridor) (demand : List ℕ) where
  demand_passes : length demand ≡ demand_length (cells_of c) → WithinLimits c.table demand ≡ true → Passes (cells_of c + 1) (demand_in_range c demand).test
  demand_passes len within = each
    where
      at : (i : ℕ) → i < length demand → leb (get_or demand i 0) (get_or (demand_limits c.table) i 0) ≡ true
      at = passes_every (length demand) _ within

      limits : ℕ → Demands
      limits i = cell_limits (row_of c i)

      each : Passes (cells_of c + 1) (demand_in_range c demand).test
      each zero h = rw (demand_entry (cells_of c) demand_limit limits) at (at 0 (omega arith))
      each (suc i) h =
          let below : i < cells_of c = omega arith in
          ap₂ (λ a b. a && b) (rw (demand_on (cells_of c) demand_limit limits i below) at (at (1 + i) (omega arith)))
          (rw (demand_off (cells_of c) demand_limit limits i below) at (at (1 + cells_of c + i) (omega arith)))

  -- the queues, the entry's and the on-ramps'
  queues_pass : queue_holds (entry_queue_of c) (entry_demand demand) ≡ true → every (cells_of c) (λ i. queue_holds (queue_of c i) (on_demand_at demand i)) ≡ true → Passes (cells_of c + 1) (queues_hold c demand).test
  queues_pass entry ramps zero h = entry
  queues_pass entry ramps (suc i) h = passes_every (cells_of c) _ ramps i (omega arith)

  pub row_passes : row_lengths_fit c demand ≡ true → WithinLimits c.table demand ≡ true → queue_holds (entry_queue_of c) (entry_demand demand) ≡ true → every (cells_of c) (λ i. queue_holds (queue_of c i) (on_demand_at demand i)) ≡ true → accepted ≡ answer (demand_checks c demand)
  row_passes fits within entry ramps =
      sym
      (lengths_passed (demand_numbers c demand) fits
      ∙ passes_accepted (demand_in_range c demand) (answer (queues_hold c demand ∷ [])) (demand_passes (row_lengths c demand fits).1 within)
      (passes_accepted (queues_hold c demand) (answer []) (queues_pass entry ramps) refl))
