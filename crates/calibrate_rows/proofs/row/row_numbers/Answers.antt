use Rattle.std.proofs.Common.{lit<}
use Rattle.calibrate_rows.proofs.Rounding.{numbers_are}
use Rattle.calibrate_rows.proofs.row.row_numbers.Goals as goal

pub returns : goal.returns
returns c = let values = c.args.values in
    numbers_are values _ _ _ _
    (c.rounded_down.ensures.largest 65_536 (lit< tt) (lit< tt) c.requires.v)
    (c.rounded_down-2.ensures.largest 65_536 (lit< tt) (lit< tt) c.requires.w)
    (c.rounded_down-3.ensures.largest 1_000_000 (lit< tt) (lit< tt) c.requires.capacity)
    (c.rounded_down-4.ensures.largest 4_000_000 (lit< tt) (lit< tt) c.requires.jam)
