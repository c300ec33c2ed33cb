use Rattle.std.proofs.Common.{arith}
use Rattle.recut_checks.proofs.Left.{too_much}
use Rattle.recut_checks.proofs.pieces.sums_to.Goals as goal

pub returns-then-left-next : goal.returns-then-left-next
returns-then-left-next g c =
    too_much _ _ _ c.loop-i.invariant (omega arith) (c.requires.1.1 c.loop-i.i c.term-next.result (omega arith) c.term-next.ensures) c.if-left-next.true
