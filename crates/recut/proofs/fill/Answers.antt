use native.Mathlib.Omega.{arith}
use Rattle.layout.specs.Corridor.{corridor_of}
use Rattle.recut.proofs.Cutting.{shared_from, queue_from, mode_from, share_is_held, fills}
use Rattle.recut.proofs.fill.Goals as goal

pub overflow_cast-cell : goal.overflow_cast-cell
overflow_cast-cell c =
    let a = c.args in
    let old = corridor_of a.old.now a.state.now in
    let shared = shared_from old a.piece a.jam c.share_by_hand-share.ensures c.count_at.ensures c.row_at-row.ensures c.requires.rest_value in
    omega (arith, share_is_held old a.pieces.now a.piece a.jam c.requires.cuttable shared)

pub returns : goal.returns
returns c =
    let a = c.args in
    let old = corridor_of a.old.now a.state.now in
    let many = c.cells-n.ensures in
    let shared = shared_from old a.piece a.jam c.share_by_hand-share.ensures c.count_at.ensures c.row_at-row.ensures c.requires.rest_value in
    let queue = queue_from old a.piece c.piece_queue-queue.ensures c.queue_at.ensures many in
    let mode = mode_from old a.piece a.pieces.now c.piece_mode-mode.ensures c.last_mode_at.ensures many in
    fills old a.pieces.now a.piece a.jam c.requires.cuttable shared queue mode
