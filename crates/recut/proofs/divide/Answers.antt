use borrow.Author.Tests.{eq-eqb, ne_eqb}
use Rattle.recut.specs.Recut.{divided}
use Rattle.recut.proofs.divide.Goals as goal

pub returns-then-whole-eq0 : goal.returns-then-whole-eq0
unfolding divided
returns-then-whole-eq0 c = simp (eq-eqb _ _ c.if-whole-eq0.true)

pub returns : goal.returns
unfolding divided
returns c = simp (ne_eqb _ _ c.if-whole-eq0.false)
