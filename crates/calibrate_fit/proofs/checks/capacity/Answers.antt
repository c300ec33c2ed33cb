use Rattle.std.proofs.Common.{refl, arith, le_refl}
use lib.Ieee.{of_bits, of_int}
use Rattle.whole.proofs.Search as search
use Rattle.calibrate_fit.specs.Calibration.{samples_usable}
use Rattle.calibrate_fit.proofs.Answers.{tested, fails, fails_nowhere}
use Rattle.calibrate_fit.proofs.Passes.{begins, goes_on, ends_whole}
use Rattle.calibrate_fit.proofs.checks.capacity.Goals as goal

pub returns-then-not-settings_fit : goal.returns-then-not-settings_fit
returns-then-not-settings_fit c = let lists = c.args in
    let test = (samples_usable lists.settings lists.flow.now lists.occupancy.now).test in
    fails lists.settings lists.flow.now lists.occupancy.now
    (search.found (search.begins test refl) (omega arith) c.if-not-settings_fit.ensures refl)
    (omega arith)

pub loop-i-init : goal.loop-i-init
unfolding of_bits of_int
loop-i-init c = (search.goes_on (search.begins _ refl) (omega arith) c.if-not-settings_fit.ensures refl, begins)

pub returns-in_default : goal.returns-in_default
returns-in_default c = let lists = c.args in
    let test = tested lists.settings lists.flow.now lists.occupancy.now c.loop-i.i c.in_default.ensures refl in
    fails lists.settings lists.flow.now lists.occupancy.now (search.found c.loop-i.invariant.0 (omega arith) test refl) (omega arith)

pub loop-i-preserved : goal.loop-i-preserved
loop-i-preserved c = let lists = c.args in
    let test = tested lists.settings lists.flow.now lists.occupancy.now c.loop-i.i c.in-Ok.ensures refl in (
      search.goes_on c.loop-i.invariant.0 (omega arith) test refl,
      goes_on c.loop-i.invariant.1 c.loop-i-test.true (le_refl _) c.in-Ok.ensures c.pick-most.ensures,
    )

pub returns : goal.returns
returns c = let lists = c.args in
    fails_nowhere lists.settings lists.flow.now lists.occupancy.now
    (search.not_found c.loop-i.invariant.0 (omega arith))
    (le_refl _)
    (ends_whole c.loop-i.invariant.1 c.loop-i-test.false)
