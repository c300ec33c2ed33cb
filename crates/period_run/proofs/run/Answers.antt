use Rattle.std.proofs.Common.{rules}
use Rattle.layout.specs.Corridor.{corridor_of}
use Rattle.period.specs.Sharing.{asymmetric}
use Rattle.period_run.proofs.Rows.{lists_refused, state_refused, can_run, run_done}
use Rattle.period_run.proofs.run.Goals as goal

pub returns-then-not-run_lists_fit : goal.returns-then-not-run_lists_fit
returns-then-not-run_lists_fit c = lists_refused _ (corridor_of c.args.table.now c.args.state.now) _ _ (search rules)

pub returns-in-Err : goal.returns-in-Err
returns-in-Err c =
    state_refused _ (corridor_of c.args.table.now c.args.state.now) c.args.demand.now c.args.sheet.now (search rules) c.in-Err.ensures

pub run_within_limits-requires : goal.run_within_limits-requires
run_within_limits-requires c =
    can_run asymmetric (corridor_of c.args.table.now c.args.state.now) _ _ (search rules) c.in_default.ensures

pub returns : goal.returns
returns c =
    run_done _ (corridor_of c.args.table.now c.args.state.now) c.args.demand.now c.args.sheet.now (search rules) c.in_default.ensures c.run_within_limits.ensures
