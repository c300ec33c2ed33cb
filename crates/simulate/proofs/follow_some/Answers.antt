use Rattle.simulate.proofs.Going.{chunk_goes}
use Rattle.simulate.proofs.follow_some.Goals as goal

pub returns-in-Ok-clause-goes : goal.returns-in-Ok-clause-goes
returns-in-Ok-clause-goes g c = chunk_goes c.follow_chunk.result _ c.follow_chunk.ensures.goes
