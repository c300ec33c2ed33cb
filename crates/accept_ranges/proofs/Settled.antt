-- The promise of each public function settles its result. Assumes nothing.
use Rattle.whole.proofs.Settles.{Settles, settled}
use Rattle.accept_ranges.proofs.with_ramp.Kinds as with_ramp_kinds
use Rattle.accept_ranges.proofs.with_ramp.Reads as with_ramp_reads
use Rattle.accept_ranges.proofs.row_in_range.Kinds as row_in_range_kinds
use Rattle.accept_ranges.proofs.row_in_range.Reads as row_in_range_reads
use Rattle.accept_ranges.proofs.room_shared.Kinds as room_shared_kinds
use Rattle.accept_ranges.proofs.room_shared.Reads as room_shared_reads
use Rattle.accept_ranges.proofs.state_fits.Kinds as state_fits_kinds
use Rattle.accept_ranges.proofs.state_fits.Reads as state_fits_reads
use Rattle.accept_ranges.proofs.given_off.Kinds as given_off_kinds
use Rattle.accept_ranges.proofs.given_off.Reads as given_off_reads
use Rattle.accept_ranges.proofs.demand_fits.Kinds as demand_fits_kinds
use Rattle.accept_ranges.proofs.demand_fits.Reads as demand_fits_reads
use Rattle.accept_ranges.proofs.queue_holds.Kinds as queue_holds_kinds
use Rattle.accept_ranges.proofs.queue_holds.Reads as queue_holds_reads

pub with_ramp_settles : Settles _ with_ramp_kinds.ps with_ramp_kinds.r with_ramp_reads.Learnt
with_ramp_settles κs a y z e f = settled

pub row_in_range_settles : Settles _ row_in_range_kinds.ps row_in_range_kinds.r row_in_range_reads.Learnt
row_in_range_settles κs a y z e f = settled

pub room_shared_settles : Settles _ room_shared_kinds.ps room_shared_kinds.r room_shared_reads.Learnt
room_shared_settles κs a y z e f = settled

pub state_fits_settles : Settles _ state_fits_kinds.ps state_fits_kinds.r state_fits_reads.Learnt
state_fits_settles κs a y z e f = settled

pub given_off_settles : Settles _ given_off_kinds.ps given_off_kinds.r given_off_reads.Learnt
given_off_settles κs a y z e f = settled

pub demand_fits_settles : Settles _ demand_fits_kinds.ps demand_fits_kinds.r demand_fits_reads.Learnt
demand_fits_settles κs a y z e f = settled

pub queue_holds_settles : Settles _ queue_holds_kinds.ps queue_holds_kinds.r queue_holds_reads.Learnt
queue_holds_settles κs a y z e f = settled
