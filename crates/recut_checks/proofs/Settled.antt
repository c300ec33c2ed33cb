-- The promise of the public function settles its result. Assumes nothing.
use Rattle.whole.proofs.Settles.{Settles, settled}
use Rattle.recut_checks.proofs.accept.Kinds as accept_kinds
use Rattle.recut_checks.proofs.accept.Reads as accept_reads

pub accept_settles : Settles _ accept_kinds.ps accept_kinds.r accept_reads.Learnt
accept_settles κs a y z e f = settled
