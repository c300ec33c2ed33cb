use Rattle.std.proofs.Common.{rules}
use Rattle.period_run.proofs.Rows.{first_row, refused_here, can_be_run, next_row, rows_done}
use Rattle.period_run.proofs.run_rows.Goals as goal

pub loop-k-init : goal.loop-k-init
loop-k-init c = first_row _ _ _ _ _ c.requires.runnable (search rules) (search rules) (search rules)

pub returns-in-Err : goal.returns-in-Err
returns-in-Err c =
    let step = c.in-Some.ensures.steps in
    rw step.1
    (refused_here _ _ _ _ _ c.loop-k.invariant (record { is = step.0.1.0; long = step.0.1.1 }) c.accept_demand.ensures c.in-Err.is)

pub run_accepted-requires-clause-row_accepted : goal.run_accepted-requires-clause-row_accepted
run_accepted-requires-clause-row_accepted c =
    let step = c.in-Some.ensures.steps in
    can_be_run _ _ _ _ _ c.loop-k.invariant (record { is = step.0.1.0; long = step.0.1.1 }) c.accept_demand.ensures c.in_default.is

pub loop-k-preserved : goal.loop-k-preserved
loop-k-preserved c =
    let step = c.in-Some.ensures.steps in
    next_row _ _ _ _ _ c.loop-k.invariant (record { is = step.0.1.0; long = step.0.1.1 }) c.accept_demand.ensures c.in_default.is step.0.0 step.2 c.run_accepted.ensures

pub returns : goal.returns
returns c = rows_done _ _ _ _ _ c.loop-k.invariant c.in-None.ensures.steps.0.1.0 (search rules)
