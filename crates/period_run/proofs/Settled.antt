-- The promise of the public function settles its result and what it leaves in the state and the sheet. Assumes nothing.
use Prim.Native.Nat.{ℕ}
use mathlib.Core.List.{List}
use Rattle.whole.proofs.Settles.{SettlesLists, settled}
use Rattle.period_run.proofs.run.Kinds as run_kinds
use Rattle.period_run.proofs.run.Reads as run_reads

pub run_settles : SettlesLists _ run_kinds.ps run_kinds.r (List ℕ × List ℕ) (λ κs e. (e.1.0.now, e.1.1.1.0.now)) run_reads.Learnt
run_settles κs a y z e f p q =
    (λ i. record { periods = settled p.periods q.periods i; answer = settled p.answered q.answered i }, λ i. (settled p.leaves_state q.leaves_state i, settled p.leaves_sheet q.leaves_sheet i))
