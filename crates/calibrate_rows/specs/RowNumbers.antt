-- Rules, "Calibration": the row values before rounding, and each rounded down.
use Rattle.std.specs.Prelude.{ℕ, ◌*◌, ◌/◌, Bool, Float}
use Rattle.std.specs.Float.{nan, inf, fin}
use Rattle.std.specs.Float.Ieee.{up, down}
use Rattle.calibrate_rows.specs.declared.Diagram.{Diagram}
use Rattle.calibrate_rows.specs.declared.RowValues.{RowValues}
use Rattle.calibrate_rows.specs.declared.RowNumbers.{RowNumbers}
use Rattle.calibrate_rows.specs.Doubles.{◌⊗◌, ◌⊘◌, double, between}

-- v is ((speed×T)/(3600×L))×65,536, w the same with wave
abbrev pub speed_share : Float → ℕ → Float → Float
speed_share speed period cell = ((speed ⊗ double period) ⊘ (double 3_600 ⊗ cell)) ⊗ double 65_536

-- F is ((capacity×T)×1000)/3600; J is (jam×L)×1000
abbrev pub row_values : Diagram → ℕ → Float → RowValues
row_values diagram period cell =
    record {
      v = speed_share diagram.speed period cell;
      w = speed_share diagram.wave period cell;
      capacity = ((diagram.capacity ⊗ double period) ⊗ double 1_000) ⊘ double 3_600;
      jam = (diagram.jam ⊗ cell) ⊗ double 1_000;
    }

-- the size of a double as a fraction of whole numbers: that of ±m·2^e is m·2^e over 1, or m over 2^-e
abbrev pub numerator : Float → ℕ
numerator nan = 0
numerator (inf negative) = 0
numerator (fin negative m e) = m * up e

abbrev pub denominator : Float → ℕ
denominator nan = 1
denominator (inf negative) = 1
denominator (fin negative m e) = down e

-- the largest whole number not above a finite double that is not negative
abbrev pub rounded_down : Float → ℕ
rounded_down x = numerator x / denominator x

unfoldable pub row_numbers : RowValues → RowNumbers
row_numbers values =
    record {
      v = rounded_down values.v;
      w = rounded_down values.w;
      capacity = rounded_down values.capacity;
      jam = rounded_down values.jam;
    }

-- 11: a row value before rounding is at least 1 and at most its limit; the values are looked at in the order v, w, F, J
abbrev pub value_fits : ℕ → Float → Bool
value_fits limit value = between (double 1) (double limit) value
