use Rattle.std.proofs.Common.{refl}
use lib.Ieee.{of_bits, of_int}
use Rattle.calibrate_fit.proofs.Passes.{begins, goes_on}
use Rattle.calibrate_fit.proofs.detector.Detector.speed_sums.Goals as goal

pub loop-i-init : goal.loop-i-init
unfolding of_bits of_int
loop-i-init c = (begins, begins)

pub loop-i-preserved : goal.loop-i-preserved
loop-i-preserved c = let within = c.args.self.now.end_within in (
  goes_on c.loop-i.invariant.0 c.loop-i-test.true within c.sample-sample.ensures refl,
  goes_on c.loop-i.invariant.1 c.loop-i-test.true within c.sample-sample.ensures refl,
)
