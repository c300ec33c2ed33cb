-- The promise of each public function settles its result: two answers that it allows for the same lists are equal.
-- Assumes nothing.
use Rattle.whole.proofs.Settles.{Settles, settled}
use Rattle.accept_tables.proofs.table_length_fits.Kinds as table_length_fits_kinds
use Rattle.accept_tables.proofs.table_length_fits.Reads as table_length_fits_reads
use Rattle.accept_tables.proofs.accept_table.Kinds as accept_table_kinds
use Rattle.accept_tables.proofs.accept_table.Reads as accept_table_reads
use Rattle.accept_tables.proofs.accept_both.Kinds as accept_both_kinds
use Rattle.accept_tables.proofs.accept_both.Reads as accept_both_reads

pub table_length_fits_settles : Settles _ table_length_fits_kinds.ps table_length_fits_kinds.r table_length_fits_reads.Learnt
table_length_fits_settles κs a y z e f = settled

pub accept_table_settles : Settles _ accept_table_kinds.ps accept_table_kinds.r accept_table_reads.Learnt
accept_table_settles κs a y z e f = settled

pub accept_both_settles : Settles _ accept_both_kinds.ps accept_both_kinds.r accept_both_reads.Learnt
accept_both_settles κs a y z e f = settled
