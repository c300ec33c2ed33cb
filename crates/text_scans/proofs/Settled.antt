-- The promise of each public function settles its result. Assumes nothing.
use Rattle.whole.proofs.Settles.{Settles, settled}
use Rattle.text_scans.proofs.begin.Kinds as begin_kinds
use Rattle.text_scans.proofs.begin.Reads as begin_reads
use Rattle.text_scans.proofs.feed.Kinds as feed_kinds
use Rattle.text_scans.proofs.feed.Reads as feed_reads
use Rattle.text_scans.proofs.untouched.Kinds as untouched_kinds
use Rattle.text_scans.proofs.untouched.Reads as untouched_reads
use Rattle.text_scans.proofs.last_field.Kinds as last_field_kinds
use Rattle.text_scans.proofs.last_field.Reads as last_field_reads
use Rattle.text_scans.proofs.ended.Kinds as ended_kinds
use Rattle.text_scans.proofs.ended.Reads as ended_reads
use Rattle.text_scans.proofs.field.is_digit.Kinds as is_digit_kinds
use Rattle.text_scans.proofs.field.is_digit.Reads as is_digit_reads
use Rattle.text_scans.proofs.field.followed.Kinds as followed_kinds
use Rattle.text_scans.proofs.field.followed.Reads as followed_reads

pub begin_settles : Settles _ begin_kinds.ps begin_kinds.r begin_reads.Learnt
begin_settles κs a y z e f = settled

pub feed_settles : Settles _ feed_kinds.ps feed_kinds.r feed_reads.Learnt
feed_settles κs a y z e f = settled

pub untouched_settles : Settles _ untouched_kinds.ps untouched_kinds.r untouched_reads.Learnt
untouched_settles κs a y z e f = settled

pub last_field_settles : Settles _ last_field_kinds.ps last_field_kinds.r last_field_reads.Learnt
last_field_settles κs a y z e f = settled

pub ended_settles : Settles _ ended_kinds.ps ended_kinds.r ended_reads.Learnt
ended_settles κs a y z e f = settled

pub is_digit_settles : Settles _ is_digit_kinds.ps is_digit_kinds.r is_digit_reads.Learnt
is_digit_settles κs a y z e f = settled

pub followed_settles : Settles _ followed_kinds.ps followed_kinds.r followed_reads.Learnt
followed_settles κs a y z e f = settled
