use Rattle.calibrate_rows.proofs.Exponents.{exponent_most}
use Rattle.calibrate_rows.proofs.Rounding.{whole_part}
use Rattle.calibrate_rows.proofs.row.rounded_down.Goals as goal

pub returns : goal.returns
returns c = record {
  largest = λ limit some small fit. rw c.saturating_f64_to_u32.ensures (whole_part c.args.x limit some small fit);
  shifted_down = exponent_most c.args.x;
}
