use Rattle.std.proofs.Common.{Ok, ap, ◌∙◌}
use Rattle.std.proofs.lemmas.Result.{err_from_is_err_and}
use Rattle.simulate.proofs.Going.{end_closes}
use Rattle.simulate.proofs.end_demand.Goals as goal

pub returns-in_err-at : goal.returns-in_err-at
returns-in_err-at g c =
    let p = err_from_is_err_and c.from_residual.result c.from_residual.ensures.1 in
    rw (p.1, p.2) (record { loses = tt; goes = end_closes _ _ _ _ _ _ _ c.end.ensures c.in_err-at.was })

pub returns-in-Over : goal.returns-in-Over
returns-in-Over g c =
    rw c.pass_last.ensures (record { loses = tt; goes = end_closes _ _ _ _ _ _ _ c.end.ensures (c.in_ok-at.was ∙ ap Ok c.in-Over.is) })
