use Rattle.layout.specs.Corridor.{corridor_of}
use Rattle.figwimple.proofs.Places.{period_placed}
use Rattle.figwimple.proofs.Called.{fits_as}
use Rattle.figwimple.proofs.figwimple_period.Goals as goal

pub word-requires-clause-placed : goal.word-requires-clause-placed
word-requires-clause-placed c = fits_as c.period.ensures.answered (period_placed (corridor_of c.args.table.now c.args.state.now) c.args.demand.now c.args.sheet.now)
