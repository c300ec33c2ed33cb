-- Every starred figure of the rules holds, by computation. Assumes nothing.
use Rattle.std.proofs.Common.{◌≡◌, true, refl}
use Rattle.refusals.specs.Checks.{or_later}
use Rattle.layout.specs.Layout.{state_of}
use Rattle.layout.specs.Sheet.{sheet_from}
use Rattle.accept_ranges.specs.Ranges.{row_in_range}
use Rattle.period.specs.Cell.{M, off_flow}
use Rattle.period.specs.Sharing.{asymmetric}
use Rattle.period.specs.Updated.{updated}
use Rattle.period.specs.Period.{node_at, flow_at, off_flow_at, mode_at, sheet_of, state_after}
use Rattle.recut_checks.specs.Pieces.{jam_before, pieces_fit}
use Rattle.recut.specs.Pieces.{piece_at}
use Rattle.recut.specs.Recut.{piece_cell}
use Rattle.figures.specs.Figures.{same, plain, thirds, of_ten, holds, all_hold, road_dropping, road, off_ramp, starred}

pub every_starred_figure_holds : all_hold asymmetric starred ≡ true
unfolding jam_before pieces_fit piece_at piece_cell plain thirds of_ten or_later row_in_range M off_flow node_at flow_at off_flow_at mode_at sheet_from sheet_of state_of updated state_after same holds all_hold road_dropping road off_ramp starred
every_starred_figure_holds = refl
