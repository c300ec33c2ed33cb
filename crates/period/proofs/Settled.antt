-- The promise of each public function settles its result and what it leaves in the state and the sheet. Assumes nothing.
use Prim.Native.Nat.{ℕ}
use mathlib.Core.Path.{refl}
use mathlib.Core.List.{List}
use Rattle.whole.proofs.Settles.{SettlesLists, settled}
use Rattle.period.proofs.period.Kinds as period_kinds
use Rattle.period.proofs.period.Reads as period_reads
use Rattle.period.proofs.run_accepted.Kinds as run_accepted_kinds
use Rattle.period.proofs.run_accepted.Reads as run_accepted_reads

pub period_settles : SettlesLists _ period_kinds.ps period_kinds.r (List ℕ × List ℕ) (λ κs e. (e.1.0.now, e.1.1.1.0.now)) period_reads.Learnt
period_settles κs a y z e f p q =
    (settled p.answered q.answered, λ i. (settled p.leaves_state q.leaves_state i, settled p.leaves_sheet q.leaves_sheet i))

pub run_accepted_settles : SettlesLists _ run_accepted_kinds.ps run_accepted_kinds.r (List ℕ × List ℕ) (λ κs e. (e.1.0.now, e.1.1.1.0.now)) run_accepted_reads.Learnt
run_accepted_settles κs a y z e f p q =
    (refl, λ i. (settled p.leaves_state q.leaves_state i, settled p.leaves_sheet q.leaves_sheet i))
