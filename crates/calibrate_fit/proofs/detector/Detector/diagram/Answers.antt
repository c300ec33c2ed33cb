use lib.Ieee.{of_bits, of_int}
use Rattle.calibrate_fit.proofs.Fitting.{no_diagram, the_diagram}
use Rattle.calibrate_fit.proofs.detector.Detector.diagram.Goals as goal

pub returns-then-free-speed : goal.returns-then-free-speed
unfolding of_bits of_int
returns-then-free-speed c = no_diagram _ _ _ _ _ c.speed_sums-free.ensures c.requires c.wave_sums-over.ensures c.if-free-speed.true

pub returns : goal.returns
unfolding of_bits of_int
returns c = the_diagram _ _ _ _ _ c.speed_sums-free.ensures c.requires c.wave_sums-over.ensures c.if-free-speed.false
