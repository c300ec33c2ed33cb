use Rattle.std.proofs.Common.{arith}
use mathlib.Core.Path.{ap, ◌∙◌}
use Rattle.std.specs.Prelude.{Err}
use Rattle.recut_checks.specs.Change.{refusal_of}
use Rattle.recut_checks.proofs.Checking.{begins, inside, goes_on, sum_fails, cell_fails, ends}
use Rattle.recut_checks.proofs.pieces_number.Goals as goal

pub returns-then-not-counts_sum : goal.returns-then-not-counts_sum
returns-then-not-counts_sum c =
    let a = c.args in
    ap Err c.refusal.ensures
    ∙ sum_fails a.whole.now a.counts.now a.parts.now (refusal_of a.change) c.cells-n.ensures c.cells.ensures c.counts_sum.ensures c.if-not-counts_sum.true

pub loop-i-init : goal.loop-i-init
loop-i-init c = begins _ _ _ c.cells-n.ensures c.cells.ensures c.counts_sum.ensures c.if-not-counts_sum.false

pub cell_has_pieces-requires : goal.cell_has_pieces-requires
cell_has_pieces-requires c = (omega arith, c.loop-i.invariant.first_is, inside _ _ _ c.loop-i.invariant (omega arith))

pub returns-then-not-cell_has_pieces : goal.returns-then-not-cell_has_pieces
returns-then-not-cell_has_pieces c =
    let a = c.args in
    ap Err c.refusal-then-not-cell_has_pieces.ensures
    ∙ cell_fails a.whole.now a.counts.now a.parts.now (refusal_of a.change) c.loop-i.invariant (omega arith) c.cell_has_pieces.ensures c.if-not-cell_has_pieces.true

pub overflow_add-first : goal.overflow_add-first
overflow_add-first c =
    let a = c.args in
    omega (arith, inside a.whole.now a.counts.now a.parts.now c.loop-i.invariant (omega arith), c.piece_count-first.ensures, c.cells.ensures)

pub loop-i-preserved : goal.loop-i-preserved
loop-i-preserved c = goes_on _ _ _ c.loop-i.invariant (omega arith) c.cell_has_pieces.ensures c.if-not-cell_has_pieces.false c.piece_count-first.ensures

pub returns : goal.returns
returns c =
    let a = c.args in
    ends a.whole.now a.counts.now a.parts.now (refusal_of a.change) c.loop-i.invariant (omega arith)
