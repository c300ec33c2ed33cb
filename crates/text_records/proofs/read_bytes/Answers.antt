use Rattle.std.proofs.Common.{rules}
use Rattle.text_records.proofs.Reading.{goes_on, stores_a_field, completes, breaks, used_up}
use Rattle.text_records.proofs.read_bytes.Goals as goal
use Rattle.text_records.proofs.read_bytes.Goals.{in-More, in-Field}

pub loop-at-preserved : goal.loop-at-preserved
loop-at-preserved c = elim c.match-feed.branch [
  | in-More w ↦ rw (w.scan-is, w.row-is) (goes_on c.loop-at.invariant (search rules) w.in-More.ensures)
  | in-Field w ↦ rw (w.scan-is, w.row-is) (stores_a_field c.loop-at.invariant (search rules) w.in-Field.ensures w.put.ensures)
]

pub returns-in-Complete : goal.returns-in-Complete
returns-in-Complete c = let both = completes c.loop-at.invariant (search rules) c.in-Complete.ensures in record {
  answer = both.0;
  stores = both.1;
}

pub returns-in-Breaks : goal.returns-in-Breaks
returns-in-Breaks c = let both = breaks c.loop-at.invariant (search rules) c.in-Breaks.ensures in record {
  answer = both.0;
  stores = both.1;
}

pub returns : goal.returns
returns c = let both = used_up c.loop-at.invariant (search rules) in record {
  answer = both.0;
  stores = both.1;
}
