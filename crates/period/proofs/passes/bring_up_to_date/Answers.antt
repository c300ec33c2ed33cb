use Rattle.period.proofs.Updating.{goes_on, ends}
use Rattle.period.proofs.passes.bring_up_to_date.Goals as goal

pub loop-i-preserved : goal.loop-i-preserved
loop-i-preserved c =
    goes_on _ _ _ _ c.loop-i.invariant c.loop-i-test.true c.cell_after-cell.ensures c.put_cell.ensures

pub returns : goal.returns
returns c =
    ends _ _ _ _ c.loop-i.invariant c.loop-i-test.false c.entry_queue.ensures c.entry_demand.ensures c.flow_in.ensures c.put_entry.ensures
