-- Cited by private contracts and proofs alone: no public promise rests on this file.
-- What rounding down is asked of the row values, and what it finds of one double.
use Rattle.std.specs.Prelude.{◌≡◌, ℕ, ◌≤◌, true, false, pos, Float}
use Rattle.std.specs.Float.{fin}
use Rattle.std.specs.Float.Ieee.{le}
use Rattle.calibrate_rows.specs.declared.RowValues.{RowValues}
use Rattle.calibrate_rows.specs.Doubles.{finite}
use Rattle.calibrate_rows.specs.RowNumbers.{value_fits}

-- a whole number as it is, not rounded to a double
abbrev pub exact : ℕ → Float
exact n = fin false n (pos 0)

-- a finite double that is not below zero; minus zero is one
pub record FiniteNotNegative (x : Float) : Type 0 where
  pub is_finite : finite x ≡ true
  pub least : le (exact 0) x ≡ true

-- the largest whole number not above a double, in the order of doubles: such a double has one, and no other does
pub record LargestNotAbove (x : Float) (r : ℕ) : Type 0 where
  pub not_above : le (exact r) x ≡ true
  pub largest : (n : ℕ) → le (exact n) x ≡ true → n ≤ r

-- each of the four values is from 1 to its limit
pub record EachFits (values : RowValues) : Type 0 where
  pub v : value_fits 65_536 values.v ≡ true
  pub w : value_fits 65_536 values.w ≡ true
  pub capacity : value_fits 1_000_000 values.capacity ≡ true
  pub jam : value_fits 4_000_000 values.jam ≡ true
