use mathlib.Core.Bool.{◌&&◌}
use mathlib.Core.Path.{ap₂}
use lib.Ieee.{of_bits, of_int}
use Rattle.calibrate_fit.proofs.checks.settings_fit.Goals as goal

pub returns : goal.returns
unfolding of_bits of_int
returns c = ap₂ ◌&&◌ (ap₂ ◌&&◌ c.between.ensures c.within.ensures) c.cell_settings_fit.ensures
