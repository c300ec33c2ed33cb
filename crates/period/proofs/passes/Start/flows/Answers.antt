use native.Mathlib.Omega.{arith}
use Rattle.period.specs.Sharing.{asymmetric}
use Rattle.period.specs.Starts.{corridor}
use Rattle.period.proofs.Facts.{facts}
use Rattle.period.proofs.Filling.{begins, goes_on, ends}
use Rattle.period.proofs.passes.Start.flows.Goals as goal

pub loop-i-init : goal.loop-i-init
loop-i-init c =
    let start = c.args.self.now in
    begins asymmetric _ _ c.args.sheet.now start.all (omega (arith, start.some)) (rw start.all at c.requires.sheet_len) c.pass_last.ensures

pub loop-i-preserved : goal.loop-i-preserved
loop-i-preserved c = goes_on _ _ _ c.loop-i.invariant c.loop-i-test.true c.pass_cell.ensures

pub overflow_add-a : goal.overflow_add-a
overflow_add-a c =
    let start = c.args.self.now in
    omega (arith, c.entry_queue.ensures, c.entry_demand.ensures, (facts (corridor start) start.demand.now start.row_accepted).d.entry_holds)

pub returns : goal.returns
returns c = ends _ _ _ c.loop-i.invariant c.loop-i-test.false c.pass_node.ensures.stores
