-- The vehicles of an accepted period balance: those after it and what left the road are those before it and what was demanded. Assumes nothing.
use Prim.Native.Nat.{ℕ, zero, suc, ◌+◌}
use mathlib.Core.Path.{◌≡◌, refl, sym, ap, ◌∙◌}
use mathlib.Core.List.{List}
use native.Mathlib.Omega.{arith}
use Rattle.whole.specs.Sums.{sum, at_position}
use Rattle.whole.proofs.Sums.{sum_of_sums, sum_of_equal_terms, balance}
use Rattle.layout.specs.Layout.{on_demand_at}
use Rattle.layout.specs.Corridor.{Corridor, cells_of, count_of, queue_of}
use Rattle.accept_rows.specs.Vehicles.{vehicles}
use Rattle.accept_tables.proofs.Accepted.{TableFits}
use Rattle.accept_rows.proofs.Accepted.{StateFits, RowFits}
use Rattle.period.specs.Sharing.{Sharing}
use Rattle.period.specs.Period.{flow_at, off_flow_at, on_flow_at, corridor_after}
use Rattle.period.specs.Fair.{Fair}
use Rattle.period.proofs.Laws.{cell_balance, entry_balance, queue_balance}
use Rattle.ledger.specs.Account.{row_account}

-- what flows out of a position, as the entry's flow and the cells' flows
at_each : (f : ℕ → ℕ) (p : ℕ) → at_position (f 0) (λ i. f (suc i)) p ≡ f p
at_each f zero = refl
at_each f (suc p) = refl

module _ (way : Sharing) (fair : Fair way) (c : Corridor) (demand : List ℕ) (t : TableFits c.table) (s : StateFits c) (d : RowFits c demand) where
  abbrev after : Corridor
  after = corridor_after way c demand

  counts_balance : sum (cells_of c) (count_of after) + sum (cells_of c) (off_flow_at way c demand) + flow_at way c demand (cells_of c) ≡ sum (cells_of c) (count_of c) + sum (cells_of c) (on_flow_at way c demand) + flow_at way c demand 0
  counts_balance =
      rw (at_each (flow_at way c demand) (cells_of c)) at
      (balance (cells_of c) (flow_at way c demand 0) (count_of c) (count_of after) (on_flow_at way c demand) (off_flow_at way c demand) (λ i. flow_at way c demand (suc i))
      λ i h. cell_balance way fair c demand t s d i h ∙ ap (λ f. count_of c i + f + on_flow_at way c demand i) (sym (at_each (flow_at way c demand) i)))

  queues_balance : sum (cells_of c) (queue_of after) + sum (cells_of c) (on_flow_at way c demand) ≡ sum (cells_of c) (queue_of c) + sum (cells_of c) (on_demand_at demand)
  queues_balance =
      sym (sum_of_sums (cells_of c) (queue_of after) (on_flow_at way c demand))
      ∙ sum_of_equal_terms (cells_of c) _ _ (queue_balance way fair c demand t s d)
      ∙ sum_of_sums (cells_of c) (queue_of c) (on_demand_at demand)

  -- vehicles after and what left the road are the vehicles before and what was demanded
  pub vehicles_balance : vehicles (corridor_after way c demand) + (row_account way c demand).out ≡ vehicles c + (row_account way c demand).brought
  vehicles_balance = omega (arith, entry_balance way fair c demand t s d, counts_balance, queues_balance)
