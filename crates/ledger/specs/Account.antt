-- Demand 3: an account: what accepted demand brings, and what leaves.
use Rattle.std.specs.Prelude.{ℕ, zero, suc, ◌+◌, List}
use Rattle.whole.specs.Sums.{sum}
use Rattle.layout.specs.Layout.{entry_demand, on_demand_at}
use Rattle.layout.specs.Corridor.{Corridor, cells_of}
use Rattle.accept_rows.specs.Vehicles.{at_on_ramp}
use Rattle.period.specs.Sharing.{Sharing}
use Rattle.period.specs.Period.{flow_at, off_flow_at, on_flow_at}

-- what is brought by accepted demand and what leaves the road, in all; and of each on-ramp number, what is brought there and what goes in
pub record Account : Type 0 where
  pub brought : ℕ
  pub out : ℕ
  pub brought_at : ℕ → ℕ
  pub in_at : ℕ → ℕ

abbrev pub nothing : Account
nothing = record { brought = 0; out = 0; brought_at = λ ramp. 0; in_at = λ ramp. 0 }

-- one account and then another
abbrev pub both : Account → Account → Account
both a b =
    record {
      brought = a.brought + b.brought;
      out = a.out + b.out;
      brought_at = λ ramp. a.brought_at ramp + b.brought_at ramp;
      in_at = λ ramp. a.in_at ramp + b.in_at ramp;
    }

-- the first k of a row of accounts
unfoldable pub total : ℕ → (ℕ → Account) → Account
total zero each = nothing
total (suc k) each = both (total k each) (each k)

-- of an accepted demand row: the demand at the entry and the on-ramps; the off-ramp flows and the last cell's flow; and of an on-ramp number the
-- demand there and the flow from there
abbrev pub row_account : Sharing → Corridor → List ℕ → Account
row_account way c demand =
    record {
      brought = entry_demand demand + sum (cells_of c) (on_demand_at demand);
      out = sum (cells_of c) (off_flow_at way c demand) + flow_at way c demand (cells_of c);
      brought_at = λ ramp. at_on_ramp c.table ramp (on_demand_at demand);
      in_at = λ ramp. at_on_ramp c.table ramp (on_flow_at way c demand);
    }
