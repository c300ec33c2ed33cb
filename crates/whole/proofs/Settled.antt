-- The promise of each public function settles its result. Assumes nothing.
use Rattle.whole.proofs.Settles.{Settles, settled}
use Rattle.whole.proofs.least.Kinds as least_kinds
use Rattle.whole.proofs.least.Reads as least_reads
use Rattle.whole.proofs.share.Kinds as share_kinds
use Rattle.whole.proofs.share.Reads as share_reads
use Rattle.whole.proofs.within.Kinds as within_kinds
use Rattle.whole.proofs.within.Reads as within_reads

pub least_settles : Settles _ least_kinds.ps least_kinds.r least_reads.Learnt
least_settles κs a y z e f = settled

pub share_settles : Settles _ share_kinds.ps share_kinds.r share_reads.Learnt
share_settles κs a y z e f = settled

pub within_settles : Settles _ within_kinds.ps within_kinds.r within_reads.Learnt
within_settles κs a y z e f = settled
