use mathlib.Core.Path.{ap, ◌∙◌}
use Prim.Native.Nat.{min}
use native.Mathlib.Omega.{arith}
use Rattle.period.proofs.OffRamps.{none_leaves, given_leaves, split_leaves_lem, split_fits}
use Rattle.period.proofs.cell.off_flow.Goals as goal

pub returns-then-row-eq0 : goal.returns-then-row-eq0
returns-then-row-eq0 c = none_leaves _ _ _ _ c.if-row-eq0.true

pub returns-then-row-eq0-2 : goal.returns-then-row-eq0-2
returns-then-row-eq0-2 c =
    c.least.ensures
    ∙ ap (min _) c.sending.ensures
    ∙ given_leaves _ _ _ _ c.if-row-eq0.false c.if-row-eq0-2.true

pub returns : goal.returns
returns c = c.split_leaves.ensures ∙ split_leaves_lem _ _ _ _ c.if-row-eq0.false c.if-row-eq0-2.false

pub split_leaves-requires : goal.split_leaves-requires
split_leaves-requires c = let its = c.args in
    let fits = split_fits its.row its.n its.o its.f c.requires.0 c.requires.1 c.if-row-eq0.false c.if-row-eq0-2.false c.requires.2 in
    (c.requires.1, omega (arith, fits))
