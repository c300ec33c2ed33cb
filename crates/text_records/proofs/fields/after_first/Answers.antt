use Rattle.std.proofs.Common.{rules}
use Rattle.text_records.proofs.Comes.{comma_after}
use Rattle.text_records.proofs.fields.after_first.Goals as goal

pub returns-then-chunk-next-eq44 : goal.returns-then-chunk-next-eq44
returns-then-chunk-next-eq44 c = comma_after c.more_digits-next.ensures (search rules) (search rules) c.if-chunk-next-eq44.true
