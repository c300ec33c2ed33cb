use Rattle.std.proofs.Common.{refl, arith}
use Rattle.std.proofs.lemmas.Result.{err_from_is_err_and}
use Rattle.simulate.proofs.Going.{stands_first, stands_then, goes_then}
use Rattle.simulate.proofs.run_demand.Goals as goal

pub reads-init : goal.reads-init
reads-init g c = (rw c.begin.ensures (stands_first _ _ _ _), refl, refl, refl, refl)

pub returns-in_err-next : goal.returns-in_err-next
returns-in_err-next g c =
    let p = err_from_is_err_and c.from_residual.result c.from_residual.ensures.1 in
    rw (p.1, p.2) (goes_then _ _ _ _ c.reads.invariant.0 _ c.in_err-next.ensures.goes)

pub returns-in-None : goal.returns-in-None
returns-in-None g c = goes_then _ _ _ _ c.reads.invariant.0 _ (rw c.in-None.is at c.in_ok-next.ensures.goes)

pub reads-preserved : goal.reads-preserved
reads-preserved g c =
    (stands_then _ _ _ _ c.reads.invariant.0 {out' = c.follow_some.new.out} (rw c.in-Some.is at c.in_ok-next.ensures.goes), omega arith, omega arith, omega arith, omega arith)
