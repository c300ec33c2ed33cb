use Rattle.std.proofs.Common.{rules}
use Rattle.refusals.specs.declared.Refusal.TheVariants.{Pieces}
use Rattle.layout.specs.Corridor.{corridor_of}
use Rattle.recut_checks.proofs.Accepted.{list_length, fits}
use Rattle.recut.proofs.Cutting.{begins, work, next_asked, goes_on, ends}
use Rattle.recut.proofs.cut.Goals as goal

pub loop-j-init : goal.loop-j-init
loop-j-init c =
    let a = c.args in
    let old = corridor_of a.old.now a.state.now in
    begins old a.pieces.now a.new.now _ (fits Pieces old a.pieces.now a.new.now a.list.now a.old.now a.new.now c.requires) c.cells-n.ensures
    (list_length Pieces old a.pieces.now a.new.now a.list.now a.old.now a.new.now c.requires)

pub fill-filled-requires-clause-cuttable : goal.fill-filled-requires-clause-cuttable
fill-filled-requires-clause-cuttable c = work c.loop-j.invariant (search rules) c.row_at-row.ensures

pub next_piece-piece-requires : goal.next_piece-piece-requires
next_piece-piece-requires c = next_asked c.loop-j.invariant (search rules) c.row_at-row.ensures

pub loop-j-preserved : goal.loop-j-preserved
loop-j-preserved c =
    goes_on c.loop-j.invariant (search rules) c.row_at-row.ensures c.fill-filled.ensures c.put_cell.ensures c.next_piece-piece.ensures

pub returns : goal.returns
returns c = ends c.loop-j.invariant (search rules) c.entry_queue.ensures c.put_entry.ensures
