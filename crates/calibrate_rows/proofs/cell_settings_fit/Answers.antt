use Rattle.std.proofs.Common.{ap₂}
use mathlib.Core.Bool.{◌&&◌}
use lib.Ieee.{of_bits, of_int}
use Rattle.calibrate_rows.proofs.cell_settings_fit.Goals as goal

pub returns : goal.returns
unfolding of_bits of_int
returns c = ap₂ (λ period cell. period && cell) c.within.ensures c.between.ensures
