use Rattle.std.proofs.Common.{rules}
use Rattle.text_records.proofs.Reading.{checks, check_more, check_field, check_record, check_breaks, check_ends, reach_start, reach_more}
use Rattle.text_records.proofs.whole_text.check_text.Goals as goal
use Rattle.text_records.proofs.whole_text.check_text.Goals.{in-Complete, in-More, in-More-2}

pub loop-byte-init : goal.loop-byte-init
loop-byte-init c = (checks _ _ c.begin-scan.ensures, reach_start c.begin-scan.ensures (search rules))

pub loop-byte-preserved : goal.loop-byte-preserved
loop-byte-preserved c = let checked = c.loop-byte.invariant.0 in elim c.match-feed.branch [
  | in-Complete w ↦ rw (w.scan-is, w.records-is)
      (check_record checked (search rules) w.in-Complete.ensures w.begin-scan-in-Complete.ensures, reach_start w.begin-scan-in-Complete.ensures (search rules))
  | in-More w ↦ rw (w.scan-is, w.records-is) (check_more checked (search rules) w.in-More.ensures, reach_more checked.fewer (search rules))
  | in-More-2 w ↦ rw (w.scan-is, w.records-is) (check_field checked (search rules) w.in-More.ensures, reach_more checked.fewer (search rules))
]

pub returns-in-Breaks : goal.returns-in-Breaks
returns-in-Breaks c = check_breaks c.loop-byte.invariant.0 (search rules) c.in-Breaks.ensures

pub returns-in-Nothing : goal.returns-in-Nothing
returns-in-Nothing c = check_ends c.loop-byte.invariant.0 (search rules) c.in-Nothing.ensures

pub returns-in-Last : goal.returns-in-Last
returns-in-Last c = check_ends c.loop-byte.invariant.0 (search rules) c.in-Last.ensures

pub returns-in-Cut : goal.returns-in-Cut
returns-in-Cut c = check_ends c.loop-byte.invariant.0 (search rules) c.in-Cut.ensures
