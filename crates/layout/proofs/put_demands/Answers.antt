use Rattle.std.proofs.Common.{rules}
use Rattle.layout.specs.Layout.{with_demands}
use Rattle.layout.proofs.put_demands.Goals as goal

pub returns : goal.returns
unfolding with_demands
returns c = search rules
