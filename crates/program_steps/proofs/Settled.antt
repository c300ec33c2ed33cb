-- The promise of each public function settles its result, and the later contents of the lists that are lent to it to write: two
-- answers that it allows for the same arguments are equal, and so are two later contents. Assumes nothing.
use Prim.Native.Nat.{ℕ}
use mathlib.Core.List.{List}
use Rattle.whole.proofs.Settles.{SettlesLists, settled}
use Rattle.program_steps.proofs.lines.header.Kinds as header_kinds
use Rattle.program_steps.proofs.lines.header.Reads as header_reads
use Rattle.program_steps.proofs.lines.stop_line.Kinds as stop_line_kinds
use Rattle.program_steps.proofs.lines.stop_line.Reads as stop_line_reads
use Rattle.program_steps.proofs.demand.follow.Kinds as follow_kinds
use Rattle.program_steps.proofs.demand.follow.Reads as follow_reads
use Rattle.program_steps.proofs.demand.end.Kinds as end_kinds
use Rattle.program_steps.proofs.demand.end.Reads as end_reads

pub header_settles : SettlesLists _ header_kinds.ps header_kinds.r (List ℕ) (λ κs e. e.0.now) header_reads.Learnt
header_settles κs a y z e f p q = (settled p.0 q.0, settled p.1 q.1)

pub stop_line_settles : SettlesLists _ stop_line_kinds.ps stop_line_kinds.r (List ℕ) (λ κs e. e.1.0.now) stop_line_reads.Learnt
stop_line_settles κs a y z e f p q = (settled p.0 q.0, settled p.1 q.1)

pub follow_settles : SettlesLists _ follow_kinds.ps follow_kinds.r (List ℕ × List ℕ × List ℕ × List ℕ)
    (λ κs e. (e.1.1.1.1.0.now, e.1.1.1.1.1.0.now, e.1.1.1.1.1.1.0.now, e.1.1.1.1.1.1.1.0.now)) follow_reads.Learnt
follow_settles κs a y z e f p q =
    (settled p.answered q.answered, λ i. ((settled p.leaves_corridor q.leaves_corridor i).state, settled p.leaves_row q.leaves_row i, settled p.leaves_sheet q.leaves_sheet i, settled p.writes q.writes i))

pub end_settles : SettlesLists _ end_kinds.ps end_kinds.r (List ℕ × List ℕ × List ℕ × List ℕ)
    (λ κs e. (e.1.1.1.0.now, e.1.1.1.1.0.now, e.1.1.1.1.1.0.now, e.1.1.1.1.1.1.0.now)) end_reads.Learnt
end_settles κs a y z e f p q =
    (settled p.answered q.answered, λ i. ((settled p.leaves_corridor q.leaves_corridor i).state, settled p.leaves_row q.leaves_row i, settled p.leaves_sheet q.leaves_sheet i, settled p.writes q.writes i))
