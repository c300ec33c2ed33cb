use native.Mathlib.Omega.{arith}
use Rattle.layout.specs.Corridor.{corridor_of}
use Rattle.period.specs.Sharing.{asymmetric}
use Rattle.figwimple.proofs.Places.{run_placed, few_periods}
use Rattle.figwimple.proofs.Called.{fits_as}
use Rattle.figwimple.proofs.figwimple_run.Goals as goal

pub word-requires : goal.word-requires
word-requires c =
    let lists = c.args in
    let ran = c.run-ran.ensures in
    let corridor = corridor_of lists.table.now lists.state.now in
    let few = few_periods asymmetric corridor lists.demand.now lists.sheet.now in
    let placed = run_placed asymmetric corridor lists.demand.now lists.sheet.now in
    record { count_bound = omega (arith, ran.periods, few); placed = fits_as ran.answered placed }
