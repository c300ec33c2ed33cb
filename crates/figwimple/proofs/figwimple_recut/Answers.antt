use Rattle.layout.specs.Corridor.{corridor_of}
use Rattle.figwimple.proofs.Places.{recut_placed}
use Rattle.figwimple.proofs.Called.{fits_as}
use Rattle.figwimple.proofs.figwimple_recut.Goals as goal

pub word-requires-clause-placed : goal.word-requires-clause-placed
word-requires-clause-placed c = fits_as c.recut.ensures.answered (recut_placed (corridor_of c.args.old.now c.args.state.now) c.args.pieces.now c.args.new.now c.args.list.now)
