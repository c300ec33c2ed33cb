use Rattle.std.proofs.Common.{◌+◌, length}
use Rattle.whole.proofs.Search.{Searching}
use Rattle.calibrate_fit.specs.Diagrams.{larger}
use Rattle.calibrate_fit.specs.Calibration.{samples_usable}
use Rattle.calibrate_fit.proofs.Passes.{Passing, folding}
use Rattle.calibrate_fit.proofs.checks.capacity.Given as goal

abbrev pub invariant-loop-i : goal.invariant-loop-i
invariant-loop-i l = Searching (length l.flow + 1) (samples_usable l.settings l.flow l.occupancy).test (length l.flow + 1) (l.i + 1)
    × Passing (folding larger) l.settings l.flow l.occupancy 0 (length l.flow) l.i l.most
