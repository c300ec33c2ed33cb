use Prim.Native.Nat.{◌+◌}
use Rattle.layout.specs.Layout.{row_at}
use Rattle.recut_checks.proofs.pieces.jams_sum.Given as goal

abbrev pub ghost-sums_to : goal.ghost-sums_to
ghost-sums_to a = λ k. (row_at a.term.0.now (a.term.1.now + k)).jam
