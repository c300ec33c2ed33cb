use Rattle.layout.specs.Corridor.{corridor_of}
use Rattle.figwimple.proofs.Places.{state_placed}
use Rattle.figwimple.proofs.Called.{fits_as}
use Rattle.figwimple.proofs.figwimple_accept_state.Goals as goal

pub word-requires-clause-placed : goal.word-requires-clause-placed
word-requires-clause-placed c = fits_as c.accept_state.ensures (state_placed (corridor_of c.args.table.now c.args.state.now))
