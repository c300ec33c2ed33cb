use Rattle.std.proofs.Common.{Ok, ap, sym, ◌∙◌, arith, length-drop}
use Rattle.std.proofs.lemmas.Result.{err_from_is_err_and}
use borrow.Author.Rules.{part_to_end}
use Rattle.program_steps.proofs.Sheets.{call_reads}
use Rattle.program_steps.proofs.Leading.{call_leads}
use Rattle.simulate.proofs.Going.{call_closes}
use Rattle.simulate.proofs.follow_chunk.Goals as goal

pub returns-in_err-read : goal.returns-in_err-read
returns-in_err-read g c =
    let p = err_from_is_err_and c.from_residual.result c.from_residual.ensures.1 in
    let closes = call_closes _ _ _ _ _ _ _ c.loop-from.invariant.0 _ _ (part_to_end c.args.chunk.now c.loop-from.from) c.follow.ensures c.in_err-read.was in
    rw (p.1, p.2) (record { loses = tt; goes = closes })

pub overflow_add-from : goal.overflow_add-from
overflow_add-from g c =
    let read = call_reads _ _ _ _ _ _ _ _ _ (sym (c.in_ok-read.was ∙ ap Ok c.in-On.is) ∙ c.follow.ensures.answered) (rw (part_to_end c.args.chunk.now c.loop-from.from) (omega (arith, length-drop c.loop-from.from c.args.chunk.now))) in
    omega (arith, read.1, length-drop c.loop-from.from c.args.chunk.now)

pub loop-from-smaller : goal.loop-from-smaller
loop-from-smaller g c =
    let read = call_reads _ _ _ _ _ _ _ _ _ (sym (c.in_ok-read.was ∙ ap Ok c.in-On.is) ∙ c.follow.ensures.answered) (rw (part_to_end c.args.chunk.now c.loop-from.from) (omega (arith, length-drop c.loop-from.from c.args.chunk.now))) in
    omega (arith, read.0, read.1, length-drop c.loop-from.from c.args.chunk.now)

pub loop-from-preserved : goal.loop-from-preserved
loop-from-preserved g c =
    (call_leads _ _ _ _ _ _ _ _ c.loop-from.invariant.0 _ _ (part_to_end c.args.chunk.now c.loop-from.from) c.follow.ensures (c.in_ok-read.was ∙ ap Ok c.in-On.is), omega arith, omega arith, omega arith, omega arith)

pub returns-in-Over : goal.returns-in-Over
returns-in-Over g c =
    let closes = call_closes _ _ _ _ _ _ _ c.loop-from.invariant.0 _ _ (part_to_end c.args.chunk.now c.loop-from.from) c.follow.ensures (c.in_ok-read.was ∙ ap Ok c.in-Over.is) in
    record { loses = tt; goes = closes }
