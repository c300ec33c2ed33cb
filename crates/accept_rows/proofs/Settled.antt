-- The promise of each public function settles its result: two answers that it allows for the same lists are equal.
-- Assumes nothing.
use Rattle.whole.proofs.Settles.{Settles, settled}
use Rattle.accept_rows.proofs.accept_state.Kinds as accept_state_kinds
use Rattle.accept_rows.proofs.accept_state.Reads as accept_state_reads
use Rattle.accept_rows.proofs.accept_row.Kinds as accept_row_kinds
use Rattle.accept_rows.proofs.accept_row.Reads as accept_row_reads
use Rattle.accept_rows.proofs.accept_demand.Kinds as accept_demand_kinds
use Rattle.accept_rows.proofs.accept_demand.Reads as accept_demand_reads
use Rattle.accept_rows.proofs.accept_state_alone.Kinds as accept_state_alone_kinds
use Rattle.accept_rows.proofs.accept_state_alone.Reads as accept_state_alone_reads

pub accept_state_settles : Settles _ accept_state_kinds.ps accept_state_kinds.r accept_state_reads.Learnt
accept_state_settles κs a y z e f = settled

pub accept_row_settles : Settles _ accept_row_kinds.ps accept_row_kinds.r accept_row_reads.Learnt
accept_row_settles κs a y z e f = settled

pub accept_demand_settles : Settles _ accept_demand_kinds.ps accept_demand_kinds.r accept_demand_reads.Learnt
accept_demand_settles κs a y z e f = settled

pub accept_state_alone_settles : Settles _ accept_state_alone_kinds.ps accept_state_alone_kinds.r accept_state_alone_reads.Learnt
accept_state_alone_settles κs a y z e f = settled
