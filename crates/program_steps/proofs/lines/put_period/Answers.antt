use Rattle.std.proofs.Common.{rules}
use Rattle.program_steps.proofs.Writing.{held_at_start, period_written}
use Rattle.program_steps.proofs.lines.put_period.Goals as goal

pub returns : goal.returns
returns c =
    let digits = c.period_digits-digits in
    let is = held_at_start c.args.k _ digits.ensures digits.auto.space (search rules) in
    period_written _ _ _ _ _ _ c.put_entry-to.ensures.put (c.put_cells.ensures c.args.k is)
