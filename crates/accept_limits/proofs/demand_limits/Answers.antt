use Rattle.std.proofs.Common.{rules}
use Rattle.accept_limits.proofs.Limits.{goes_on, ends}
use Rattle.accept_limits.proofs.demand_limits.Goals as goal

pub loop-i-preserved : goal.loop-i-preserved
loop-i-preserved c =
    goes_on c.loop-i.invariant c.loop-i-test.true c.row_at.ensures c.cell_limits.ensures c.put_demands.ensures

pub returns : goal.returns
returns c = ends c.loop-i.invariant (search rules) c.put_entry.ensures
