use Rattle.text_records.proofs.Reading.{Storing}
use Rattle.text_records.proofs.whole_text.store_text.Given as goal

abbrev pub invariant-loop-byte : goal.invariant-loop-byte
invariant-loop-byte l = Storing l.fields l.text l.initial.list l.scan l.place l.byte-index l.list
