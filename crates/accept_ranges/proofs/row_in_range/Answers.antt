use Rattle.std.proofs.Common.{rules}
use Rattle.accept_ranges.specs.Ranges.{row_in_range}
use Rattle.accept_ranges.proofs.row_in_range.Goals as goal

pub returns : goal.returns
unfolding row_in_range
returns c = search rules
