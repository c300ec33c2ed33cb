use Rattle.std.proofs.Common.{rules}
use native.Mathlib.Omega.{arith}
use lib.ListN.{get_or}
use Rattle.text_records.proofs.Comes.{is_digit_lem, one_digit_more}
use Rattle.text_records.proofs.fields.more_digits.Goals as goal

pub loop-next-preserved : goal.loop-next-preserved
loop-next-preserved c = let byte = get_or c.args.chunk.now c.loop-next.next 0 in
    let digit = is_digit_lem byte c.is_digit.ensures c.if-not-is_digit.false in
    rw c.from.ensures (omega arith, one_digit_more c.loop-next.invariant.1 (search rules) (search rules) digit (search rules) (search rules))
