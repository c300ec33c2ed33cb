-- The promise of each public function settles its result, and the later contents of the lists that are lent to it to write: two
-- answers that it allows for the same arguments are equal, and so are two later contents. Assumes nothing.
use Prim.Native.Nat.{ℕ}
use mathlib.Core.List.{List}
use Rattle.std.specs.Prelude.{◌≡◌, Ok}
use Rattle.whole.proofs.Settles.{Settles, SettlesLists, settled}
use Rattle.program_files.proofs.start.Kinds as start_kinds
use Rattle.program_files.proofs.start.Reads as start_reads
use Rattle.program_files.proofs.read_on.Kinds as read_on_kinds
use Rattle.program_files.proofs.read_on.Reads as read_on_reads
use Rattle.program_files.proofs.read_end.Kinds as read_end_kinds
use Rattle.program_files.proofs.read_end.Reads as read_end_reads
use Rattle.program_files.proofs.cells_found.Kinds as cells_found_kinds
use Rattle.program_files.proofs.cells_found.Reads as cells_found_reads
use Rattle.program_files.proofs.state_found.Kinds as state_found_kinds
use Rattle.program_files.proofs.state_found.Reads as state_found_reads
use Rattle.program_files.proofs.demand_lost.Kinds as demand_lost_kinds
use Rattle.program_files.proofs.demand_lost.Reads as demand_lost_reads
use Rattle.program_files.proofs.counted.Kinds as counted_kinds
use Rattle.program_files.proofs.counted.Reads as counted_reads
use Rattle.program_files.proofs.broken.Kinds as broken_kinds
use Rattle.program_files.proofs.broken.Reads as broken_reads
use Rattle.program_files.proofs.refused_in.Kinds as refused_in_kinds
use Rattle.program_files.proofs.refused_in.Reads as refused_in_reads

pub start_settles : Settles _ start_kinds.ps start_kinds.r start_reads.Learnt
start_settles κs a y z e f p q = let same : Ok y ≡ Ok z = settled p q in cc

pub read_on_settles : SettlesLists _ read_on_kinds.ps read_on_kinds.r (List ℕ) (λ κs e. e.1.1.1.0.now) read_on_reads.Learnt
read_on_settles κs a y z e f p q = (settled p.0 q.0, settled p.1 q.1)

pub read_end_settles : SettlesLists _ read_end_kinds.ps read_end_kinds.r (List ℕ) (λ κs e. e.1.1.0.now) read_end_reads.Learnt
read_end_settles κs a y z e f p q = (settled p.0 q.0, settled p.1 q.1)

pub cells_found_settles : Settles _ cells_found_kinds.ps cells_found_kinds.r cells_found_reads.Learnt
cells_found_settles κs a y z e f = settled

pub state_found_settles : Settles _ state_found_kinds.ps state_found_kinds.r state_found_reads.Learnt
state_found_settles κs a y z e f = settled

pub demand_lost_settles : Settles _ demand_lost_kinds.ps demand_lost_kinds.r demand_lost_reads.Learnt
demand_lost_settles κs a y z e f = settled

pub counted_settles : Settles _ counted_kinds.ps counted_kinds.r counted_reads.Learnt
counted_settles κs a y z e f = settled

pub broken_settles : Settles _ broken_kinds.ps broken_kinds.r broken_reads.Learnt
broken_settles κs a y z e f = settled

pub refused_in_settles : Settles _ refused_in_kinds.ps refused_in_kinds.r refused_in_reads.Learnt
refused_in_settles κs a y z e f = settled
