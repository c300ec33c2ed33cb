use Rattle.calibrate_fit.specs.Diagrams.{flow_by_density, density_squared}
use Rattle.calibrate_fit.proofs.Passes.{Passing, summing}
use Rattle.calibrate_fit.proofs.detector.Detector.speed_sums.Given as goal

abbrev pub invariant-loop-i : goal.invariant-loop-i
invariant-loop-i l = Passing (summing flow_by_density) l.self.settings l.self.flow.now l.self.occupancy.now l.self.settings.start l.self.settings.end l.i l.top
    × Passing (summing density_squared) l.self.settings l.self.flow.now l.self.occupancy.now l.self.settings.start l.self.settings.end l.i l.bottom
