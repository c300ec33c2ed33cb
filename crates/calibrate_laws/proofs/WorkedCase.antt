-- Rules, "Worked figures": g 1/256, one lane, samples (960, 1/16), (1,920, 1/8) free, then (960, 3/8), T 10 and L 1/2,
-- worked out by the definitions. Assumes nothing.
use mathlib.Core.Path.{◌≡◌, refl}
use mathlib.Core.List.{List, [], ◌∷◌}
use lib.Ieee.{Float, of_int, add, sub, mul, div, lt, le, eq}
use Rattle.std.specs.Prelude.{Ok}
use Rattle.refusals.specs.Checks.{or_later}
use Rattle.calibrate_fit.specs.declared.Settings.{Settings}
use Rattle.calibrate_rows.specs.declared.Diagram.{Diagram}
use Rattle.calibrate_rows.specs.declared.RowNumbers.{RowNumbers}
use Rattle.calibrate_rows.specs.Doubles.{◌⊘◌, double}
use Rattle.calibrate_fit.specs.Samples.{sample_of, samples}
use Rattle.calibrate_fit.specs.Diagrams.{diagram_of, can_be_fitted}
use Rattle.calibrate_rows.specs.RowNumbers.{row_numbers}
use Rattle.calibrate_fit.specs.Calibration.{calibration_of}

abbrev settings : Settings
settings = record { g = double 1 ⊘ double 256; lanes = 1; period = 10; cell = double 1 ⊘ double 2; start = 0; end = 2 }

abbrev flow : List Float
flow = double 960 ∷ double 1_920 ∷ double 960 ∷ []

abbrev occupancy : List Float
occupancy = double 1 ⊘ double 16 ∷ double 1 ⊘ double 8 ∷ double 3 ⊘ double 8 ∷ []

abbrev diagram : Diagram
diagram = record { speed = double 60; capacity = double 1_920; critical = double 32; wave = double 15; jam = double 160 }

abbrev numbers : RowNumbers
numbers = record { v = 21_845; w = 5_461; capacity = 5_333; jam = 80_000 }

pub worked_case : calibration_of settings flow occupancy ≡ Ok (record { diagram = diagram; row = numbers })
unfolding of_int add sub mul div lt le eq or_later sample_of samples diagram_of can_be_fitted row_numbers
worked_case = refl
