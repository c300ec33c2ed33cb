-- The promise of each public function settles its result. Assumes nothing.
use Rattle.whole.proofs.Settles.{Settles, settled}
use Rattle.refusals.proofs.Refusal.number.Kinds as number_kinds
use Rattle.refusals.proofs.Refusal.number.Reads as number_reads
use Rattle.refusals.proofs.Refusal.place.Kinds as place_kinds
use Rattle.refusals.proofs.Refusal.place.Reads as place_reads

pub number_settles : Settles _ number_kinds.ps number_kinds.r number_reads.Learnt
number_settles κs a y z e f = settled

pub place_settles : Settles _ place_kinds.ps place_kinds.r place_reads.Learnt
place_settles κs a y z e f = settled
