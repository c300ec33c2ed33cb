-- The promise of each public function settles its result: two answers that it allows for the same arguments are equal.
-- Assumes nothing.
use Rattle.whole.proofs.Settles.{Settles, settled}
use Rattle.calibrate_fit.proofs.read_sample.Kinds as read_sample_kinds
use Rattle.calibrate_fit.proofs.read_sample.Reads as read_sample_reads
use Rattle.calibrate_fit.proofs.fit.Kinds as fit_kinds
use Rattle.calibrate_fit.proofs.fit.Reads as fit_reads
use Rattle.calibrate_fit.proofs.calibrate.Kinds as calibrate_kinds
use Rattle.calibrate_fit.proofs.calibrate.Reads as calibrate_reads

pub read_sample_settles : Settles _ read_sample_kinds.ps read_sample_kinds.r read_sample_reads.Learnt
read_sample_settles κs a y z e f = settled

pub fit_settles : Settles _ fit_kinds.ps fit_kinds.r fit_reads.Learnt
fit_settles κs a y z e f = settled

pub calibrate_settles : Settles _ calibrate_kinds.ps calibrate_kinds.r calibrate_reads.Learnt
calibrate_settles κs a y z e f = settled
