-- The promise of each public function settles its result, and the later contents of the list that is lent to it to write:
-- two answers that it allows for the same arguments are equal, and so are two later contents. Assumes nothing.
use Rattle.whole.proofs.Settles.{Settles, settled}
use Rattle.text_digits.proofs.Settled.{SettlesLater}
use Rattle.text_records.proofs.read_record.Kinds as read_record_kinds
use Rattle.text_records.proofs.read_record.Reads as read_record_reads
use Rattle.text_records.proofs.finish.Kinds as finish_kinds
use Rattle.text_records.proofs.finish.Reads as finish_reads
use Rattle.text_records.proofs.read_text.Kinds as read_text_kinds
use Rattle.text_records.proofs.read_text.Reads as read_text_reads
use Rattle.text_records.proofs.read_one.Kinds as read_one_kinds
use Rattle.text_records.proofs.read_one.Reads as read_one_reads

pub read_record_settles : Settles _ read_record_kinds.ps read_record_kinds.r read_record_reads.Learnt
read_record_settles κs a y z e f p q = settled p.0 q.0

pub read_record_settles_row : SettlesLater _ read_record_kinds.ps read_record_kinds.r read_record_reads.Learnt (λ κs e. e.1.1.1.0.now)
read_record_settles_row κs a y z e f p q = settled p.1 q.1

pub finish_settles : Settles _ finish_kinds.ps finish_kinds.r finish_reads.Learnt
finish_settles κs a y z e f p q = settled p.0 q.0

pub finish_settles_row : SettlesLater _ finish_kinds.ps finish_kinds.r finish_reads.Learnt (λ κs e. e.1.0.now)
finish_settles_row κs a y z e f p q = settled p.1 q.1

pub read_text_settles : Settles _ read_text_kinds.ps read_text_kinds.r read_text_reads.Learnt
read_text_settles κs a y z e f p q = settled p.0 q.0

pub read_text_settles_list : SettlesLater _ read_text_kinds.ps read_text_kinds.r read_text_reads.Learnt (λ κs e. e.1.1.0.now)
read_text_settles_list κs a y z e f p q = cc

pub read_one_settles : Settles _ read_one_kinds.ps read_one_kinds.r read_one_reads.Learnt
read_one_settles κs a y z e f p q = settled p.0 q.0

pub read_one_settles_row : SettlesLater _ read_one_kinds.ps read_one_kinds.r read_one_reads.Learnt (λ κs e. e.1.0.now)
read_one_settles_row κs a y z e f p q = cc
