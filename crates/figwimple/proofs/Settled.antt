-- The promise of each exported function settles its word and what it leaves in each lent list. Assumes nothing.
use Prim.Native.Nat.{ℕ}
use mathlib.Core.List.{List}
use lib.Ieee.{Float}
use Rattle.whole.proofs.Settles.{Settles, SettlesLists, settled}
use Rattle.figwimple.proofs.figwimple_accept_table.Kinds as figwimple_accept_table_kinds
use Rattle.figwimple.proofs.figwimple_accept_table.Reads as figwimple_accept_table_reads
use Rattle.figwimple.proofs.figwimple_accept_state.Kinds as figwimple_accept_state_kinds
use Rattle.figwimple.proofs.figwimple_accept_state.Reads as figwimple_accept_state_reads
use Rattle.figwimple.proofs.figwimple_accept_row.Kinds as figwimple_accept_row_kinds
use Rattle.figwimple.proofs.figwimple_accept_row.Reads as figwimple_accept_row_reads
use Rattle.figwimple.proofs.figwimple_period.Kinds as figwimple_period_kinds
use Rattle.figwimple.proofs.figwimple_period.Reads as figwimple_period_reads
use Rattle.figwimple.proofs.figwimple_run.Kinds as figwimple_run_kinds
use Rattle.figwimple.proofs.figwimple_run.Reads as figwimple_run_reads
use Rattle.figwimple.proofs.figwimple_recut.Kinds as figwimple_recut_kinds
use Rattle.figwimple.proofs.figwimple_recut.Reads as figwimple_recut_reads
use Rattle.figwimple.proofs.figwimple_join.Kinds as figwimple_join_kinds
use Rattle.figwimple.proofs.figwimple_join.Reads as figwimple_join_reads
use Rattle.figwimple.proofs.figwimple_calibrate.Kinds as figwimple_calibrate_kinds
use Rattle.figwimple.proofs.figwimple_calibrate.Reads as figwimple_calibrate_reads

pub accept_table_settles : Settles _ figwimple_accept_table_kinds.ps figwimple_accept_table_kinds.r figwimple_accept_table_reads.Learnt
accept_table_settles κs a y z e f = settled

pub accept_state_settles : Settles _ figwimple_accept_state_kinds.ps figwimple_accept_state_kinds.r figwimple_accept_state_reads.Learnt
accept_state_settles κs a y z e f = settled

pub accept_row_settles : Settles _ figwimple_accept_row_kinds.ps figwimple_accept_row_kinds.r figwimple_accept_row_reads.Learnt
accept_row_settles κs a y z e f = settled

-- state and sheet
pub period_settles : SettlesLists _ figwimple_period_kinds.ps figwimple_period_kinds.r (List ℕ × List ℕ) (λ κs e. (e.1.0.now, e.1.1.1.0.now)) figwimple_period_reads.Learnt
period_settles κs a y z e f p q =
    (settled p.answered q.answered, λ i. (settled p.leaves.leaves_state q.leaves.leaves_state i, settled p.leaves.leaves_sheet q.leaves.leaves_sheet i))

-- state and sheet
pub run_settles : SettlesLists _ figwimple_run_kinds.ps figwimple_run_kinds.r (List ℕ × List ℕ) (λ κs e. (e.1.0.now, e.1.1.1.0.now)) figwimple_run_reads.Learnt
run_settles κs a y z e f p q =
    (settled p.answered q.answered, λ i. (settled p.leaves.leaves_state q.leaves.leaves_state i, settled p.leaves.leaves_sheet q.leaves.leaves_sheet i))

-- the new state
pub recut_settles : SettlesLists _ figwimple_recut_kinds.ps figwimple_recut_kinds.r (List ℕ) (λ κs e. e.1.1.1.1.0.now) figwimple_recut_reads.Learnt
recut_settles κs a y z e f p q = (settled p.answered q.answered, settled p.leaves.leaves q.leaves.leaves)

-- the new state
pub join_settles : SettlesLists _ figwimple_join_kinds.ps figwimple_join_kinds.r (List ℕ) (λ κs e. e.1.1.1.1.0.now) figwimple_join_reads.Learnt
join_settles κs a y z e f p q = (settled p.answered q.answered, settled p.leaves.leaves q.leaves.leaves)

-- the diagram's five doubles and the row's four numbers
pub calibrate_settles : SettlesLists _ figwimple_calibrate_kinds.ps figwimple_calibrate_kinds.r (List Float × List ℕ) (λ κs e. (e.1.1.1.1.1.1.1.1.0.now, e.1.1.1.1.1.1.1.1.1.0.now)) figwimple_calibrate_reads.Learnt
calibrate_settles κs a y z e f p q =
    (settled p.answered q.answered, λ i. (settled p.leaves_diagram q.leaves_diagram i, settled p.leaves_row q.leaves_row i))
