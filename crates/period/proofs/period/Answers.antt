use native.Mathlib.Omega.{arith}
use Rattle.layout.specs.Corridor.{corridor_of}
use Rattle.period.proofs.Done.{sheet_refused}
use Rattle.period.proofs.period.Goals as goal

pub returns-then-sheet-sheet_length : goal.returns-then-sheet-sheet_length
returns-then-sheet-sheet_length c =
    let lists = c.args in
    sheet_refused _ (corridor_of lists.table.now lists.state.now) lists.demand.now lists.sheet.now (λ e. c.if-sheet-sheet_length.true (omega arith))
