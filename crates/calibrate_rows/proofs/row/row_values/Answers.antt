use Rattle.std.proofs.Common.{ap₂}
use lib.Ieee.{of_bits, of_int}
use Rattle.calibrate_rows.specs.RowNumbers.{row_values}
use Rattle.calibrate_rows.proofs.row.row_values.Goals as goal

pub returns : goal.returns
unfolding of_bits of_int
returns c = let given = c.args in
    let values = row_values given.diagram given.period given.cell in
    ap₂ (λ v w. record { v = v; w = w; capacity = values.capacity; jam = values.jam }) c.speed_share.ensures c.speed_share-2.ensures
