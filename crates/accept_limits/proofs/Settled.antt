-- The promise of each public function settles its result. Assumes nothing.
use Prim.Native.Nat.{ℕ}
use mathlib.Core.Path.{refl}
use mathlib.Core.List.{List}
use Rattle.whole.proofs.Settles.{Settles, SettlesLists, settled}
use Rattle.accept_limits.proofs.demand_limits.Kinds as demand_limits_kinds
use Rattle.accept_limits.proofs.demand_limits.Reads as demand_limits_reads
use Rattle.accept_limits.proofs.accept_demand.Kinds as accept_demand_kinds
use Rattle.accept_limits.proofs.accept_demand.Reads as accept_demand_reads

pub demand_limits_settles : SettlesLists _ demand_limits_kinds.ps demand_limits_kinds.r (List ℕ) (λ κs e. e.1.0.now) demand_limits_reads.Learnt
demand_limits_settles κs a y z e f p q = (refl, settled p q)

pub accept_demand_settles : Settles _ accept_demand_kinds.ps accept_demand_kinds.r accept_demand_reads.Learnt
accept_demand_settles κs a y z e f = settled
