use Rattle.recut_checks.specs.Pieces.{pieces_fit}
use Rattle.recut_checks.proofs.pieces.pieces_fit.Goals as goal

pub returns : goal.returns
unfolding pieces_fit
returns c =
    rw (c.no_other_ramps.ensures, c.keeps_off_ramp.ensures, c.row_at-2.ensures)
    (rw (c.keeps_on_ramp.ensures, c.row_at.ensures, c.jams_sum.ensures))
