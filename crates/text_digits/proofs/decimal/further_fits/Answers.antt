use Rattle.std.proofs.Common.{rules}
use Rattle.text_digits.proofs.Lines.{count_on, count_over, count_done}
use Rattle.text_digits.proofs.decimal.further_fits.Goals as goal

pub returns-then-left-taken : goal.returns-then-left-taken
returns-then-left-taken c = count_over c.loop-number.invariant (search rules) _ c.digit_count-taken.ensures c.if-left-taken.true

pub loop-number-preserved : goal.loop-number-preserved
loop-number-preserved c = count_on c.loop-number.invariant (search rules) _ c.digit_count-taken.ensures c.if-left-taken.false

pub returns : goal.returns
returns c = count_done c.loop-number.invariant (search rules)
