use Rattle.text_records.proofs.Reading.{Checking, Reaching}
use Rattle.text_records.proofs.whole_text.check_text.Given as goal

abbrev pub invariant-loop-byte : goal.invariant-loop-byte
invariant-loop-byte l = Checking l.fields l.text l.scan l.records l.byte-index × Reaching l.text l.scan l.records l.byte-index
