use Rattle.std.proofs.Common.{rules}
use Rattle.text_records.proofs.Reading.{stores_from, store_more, store_field, store_record, store_breaks}
use Rattle.text_records.proofs.whole_text.store_text.Goals as goal
use Rattle.text_records.proofs.whole_text.store_text.Goals.{in-More, in-Field, in-Complete}

pub loop-byte-init : goal.loop-byte-init
loop-byte-init c = stores_from _ _ _ c.begin-scan.ensures

pub loop-byte-preserved : goal.loop-byte-preserved
loop-byte-preserved c = elim c.match-feed.branch [
  | in-More w ↦ rw (w.scan-is, w.place-is, w.list-is) (store_more c.loop-byte.invariant (search rules) w.in-More.ensures)
  | in-Field w ↦ rw (w.scan-is, w.place-is, w.list-is) (store_field c.loop-byte.invariant (search rules) w.in-Field.ensures w.put.ensures)
  | in-Complete w ↦ rw (w.scan-is, w.place-is, w.list-is) (store_record c.loop-byte.invariant (search rules) w.in-Complete.ensures w.begin-scan-in-Complete.ensures)
]

pub returns-in-Breaks : goal.returns-in-Breaks
returns-in-Breaks c = store_breaks c.loop-byte.invariant (search rules) c.in-Breaks.ensures
