use Rattle.figwimple.proofs.Places.{table_placed}
use Rattle.figwimple.proofs.Called.{fits_as}
use Rattle.figwimple.proofs.figwimple_accept_table.Goals as goal

pub word-requires-clause-placed : goal.word-requires-clause-placed
word-requires-clause-placed c = fits_as c.accept_table.ensures (table_placed c.args.table.now)
