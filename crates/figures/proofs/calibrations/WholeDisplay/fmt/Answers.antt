use lib.Ieee.{of_bits, neg}
use Rattle.figures.proofs.calibrations.WholeDisplay.fmt.Goals as goal

pub truncating_f64_to_u64-whole-requires-clause-lower_bound : goal.truncating_f64_to_u64-whole-requires-clause-lower_bound
unfolding of_bits neg
truncating_f64_to_u64-whole-requires-clause-lower_bound g c = rw c.if-x.true tt

pub truncating_f64_to_u64-whole-requires-clause-upper_bound : goal.truncating_f64_to_u64-whole-requires-clause-upper_bound
unfolding of_bits neg
truncating_f64_to_u64-whole-requires-clause-upper_bound g c = rw c.if-x-2.true tt
