use Rattle.program_steps.proofs.Calls.{lists_told}
use Rattle.program_steps.proofs.demand.lists_fit.Goals as goal

pub returns : goal.returns
returns c = lists_told _ _ _ _ c.demand_length.ensures c.sheet_length.ensures c.has_room.ensures
