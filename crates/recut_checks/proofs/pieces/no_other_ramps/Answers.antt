use Rattle.std.proofs.Common.{rules, tests, ◌+◌}
use mathlib.Core.Path.{refl}
use Rattle.whole.proofs.Search.{all_every}
use Rattle.layout.specs.Layout.{row_at}
use Rattle.recut_checks.specs.Pieces.{no_other_ramp}
use Rattle.recut_checks.proofs.pieces.no_other_ramps.Goals as goal

pub returns : goal.returns
returns c =
    let a = c.args in
    all_every (λ k. no_other_ramp a.count k (row_at a.parts.now (a.first + k))) c.all.new.self refl c.all.ensures.ran (λ x b q k. search (rules, tests))
