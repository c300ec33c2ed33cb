use Rattle.std.proofs.Common.{ap₂, le_refl}
use lib.Ieee.{of_bits, of_int}
use Rattle.calibrate_fit.proofs.Passes.{begins, goes_on, ends_whole, sums_of}
use Rattle.calibrate_fit.proofs.detector.Detector.wave_sums.Goals as goal

pub loop-i-init : goal.loop-i-init
unfolding of_bits of_int
loop-i-init c = (begins, begins)

pub loop-i-preserved : goal.loop-i-preserved
loop-i-preserved c = (
  goes_on c.loop-i.invariant.0 c.loop-i-test.true (le_refl _) c.sample-sample.ensures c.pick-top.ensures,
  goes_on c.loop-i.invariant.1 c.loop-i-test.true (le_refl _) c.sample-sample.ensures c.pick-bottom.ensures,
)

pub returns : goal.returns
returns c = ap₂ sums_of (ends_whole c.loop-i.invariant.0 c.loop-i-test.false) (ends_whole c.loop-i.invariant.1 c.loop-i-test.false)
