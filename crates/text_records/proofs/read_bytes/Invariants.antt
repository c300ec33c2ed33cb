use Rattle.text_records.proofs.Reading.{OneRecord}
use Rattle.text_records.proofs.read_bytes.Given as goal

abbrev pub invariant-loop-at : goal.invariant-loop-at
invariant-loop-at l = OneRecord l.chunk l.from l.initial.scan l.initial.row l.at l.scan l.row
