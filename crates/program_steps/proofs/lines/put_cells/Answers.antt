use Rattle.std.proofs.Common.{rules}
use native.Mathlib.Omega.{arith}
use Rattle.program_steps.proofs.Writing.{cell_written, all_written}
use Rattle.program_steps.proofs.lines.put_cells.Goals as goal

pub loop-i-preserved : goal.loop-i-preserved
loop-i-preserved c =
    let inv = c.loop-i.invariant in
    let put = c.put_cell-to.ensures in
    (λ k is. cell_written _ _ _ _ (inv.0 k is) (search rules) (put.put k is) put.within (search rules), omega arith, omega arith)

pub returns : goal.returns
returns c k is = all_written _ _ _ _ (c.loop-i.invariant.0 k is) (search rules)
