use Rattle.std.proofs.Common.{length}
use Rattle.calibrate_fit.specs.Diagrams.{gap_by_excess, excess_squared}
use Rattle.calibrate_fit.proofs.Passes.{Passing, summing_above}
use Rattle.calibrate_fit.proofs.detector.Detector.wave_sums.Given as goal

abbrev pub invariant-loop-i : goal.invariant-loop-i
invariant-loop-i l = Passing (summing_above l.critical (gap_by_excess l.capacity l.critical)) l.self.settings l.self.flow.now l.self.occupancy.now 0 (length l.self.flow.now) l.i l.top
    × Passing (summing_above l.critical (excess_squared l.critical)) l.self.settings l.self.flow.now l.self.occupancy.now 0 (length l.self.flow.now) l.i l.bottom
