use Rattle.layout.specs.Corridor.{corridor_of}
use Rattle.figwimple.proofs.Places.{join_placed}
use Rattle.figwimple.proofs.Called.{fits_as}
use Rattle.figwimple.proofs.figwimple_join.Goals as goal

pub word-requires-clause-placed : goal.word-requires-clause-placed
word-requires-clause-placed c = fits_as c.join.ensures.answered (join_placed (corridor_of c.args.old.now c.args.state.now) c.args.groups.now c.args.new.now c.args.list.now)
