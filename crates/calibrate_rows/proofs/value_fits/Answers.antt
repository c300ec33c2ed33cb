use lib.Ieee.{of_bits, of_int}
use Rattle.calibrate_rows.proofs.value_fits.Goals as goal

pub returns-then-not-between : goal.returns-then-not-between
unfolding of_bits of_int
returns-then-not-between c = rw (← c.if-not-between.ensures)

pub returns : goal.returns
unfolding of_bits of_int
returns c = rw (← c.if-not-between.ensures)
