-- The promise of the join settles its answer and what it leaves in the new state's list. Assumes nothing.
use Prim.Native.Nat.{ℕ}
use mathlib.Core.List.{List}
use Rattle.whole.proofs.Settles.{SettlesLists, settled}
use Rattle.join.proofs.join.Kinds as join_kinds
use Rattle.join.proofs.join.Reads as join_reads

pub join_settles : SettlesLists _ join_kinds.ps join_kinds.r (List ℕ) (λ κs e. e.1.1.1.1.0.now) join_reads.Learnt
join_settles κs a y z e f p q = (settled p.answered q.answered, settled p.leaves q.leaves)
