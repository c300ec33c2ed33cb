use Rattle.std.proofs.Common.{rules}
use Rattle.layout.specs.Layout.{with_cell}
use Rattle.layout.proofs.put_cell.Goals as goal

pub returns : goal.returns
unfolding with_cell
returns c = search rules
