use Rattle.std.proofs.Common.{refl, arith}
use Rattle.std.proofs.lemmas.Result.{err_from_is_err_and}
use Rattle.simulate.proofs.Reading.{stands_first, read_then, none_more, read_fails, lost, read_to_its_end}
use Rattle.simulate.proofs.read_all.Goals as goal

pub reads-init : goal.reads-init
reads-init g c = (rw c.start.ensures (stands_first _ _), refl)

pub reads-preserved : goal.reads-preserved
reads-preserved g c = let more = rw c.in-Some.is at c.in_ok-next.ensures in
    (read_then _ c.reads.invariant.0 more.chunk more.stands more.holds, omega arith)

pub returns-in_err-next : goal.returns-in_err-next
returns-in_err-next g c =
    let p = err_from_is_err_and c.from_residual.result c.from_residual.ensures.1 in
    rw (p.1, p.2) (read_fails _ c.reads.invariant.0 _ _ c.in_err-next.ensures)

pub returns-in-None : goal.returns-in-None
returns-in-None g c =
    let end = c.read_end in
    let at = none_more _ c.reads.invariant.0 (rw c.in-None.is at c.in_ok-next.ensures) in
    read_to_its_end _ at end.result end.ensures.answer end.ensures.stores

pub returns : goal.returns
returns g c = lost _ c.reads.invariant.0
