use lib.Ieee.{of_bits, of_int}
use Rattle.calibrate_fit.proofs.flow_in_range.Goals as goal

pub returns : goal.returns
unfolding of_bits of_int
returns c = c.between.ensures
