use mathlib.Core.Path.{◌∙◌}
use Rattle.program_steps.proofs.Calls.{end_leaves, turn_position}
use Rattle.program_steps.proofs.demand.end_run.Goals as goal

pub returns : goal.returns
returns c =
    let turned = rw (c.last_read.ensures, c.finish-end.ensures.answer) at c.turn_of-turn.ensures in
    end_leaves _ _ _ _ c.requires.ready.row_fits c.finish-end.ensures.stores turned (c.written_to.ensures ∙ turn_position _ _ turned.answered)
