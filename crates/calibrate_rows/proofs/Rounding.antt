-- Rounding down: what the limits of a row value say over whole numbers, which doubles have a largest whole number not above
-- them, and that a double's whole part is it. Assumes nothing.
use Rattle.std.proofs.Common.{◌≡◌, ℕ, ◌+◌, ◌-◌, ◌*◌, ◌/◌, ◌^◌, ◌<◌, ◌≤◌, min, Bool, true, false, ◌||◌, T, eqb, ltb, ◌⊎◌, ℤ, sym, refl, subst, inl, inr, le_trans, le_of_lt, mul-le-mul_right, mul_comm, le-div_iff_mul-le, arith, lit<, lit≤, ltb-true, eq-eqb, eqb-true}
use mathlib.Core.Bool.{false≢true}
use native.Mathlib.Nat.{div-le_of_le-mul, zero-div}
use lib.Ieee.{Float, nan, inf, fin, binary64, up, down, of_int, to_unsigned, le, lt, eq}
use lib.Ieee.Fits.{down_pos}
use lib.Ieee.Bits.{is_true}
use lib.Ieee.Exact.{HasValue}
use lib.Ieee.Order.{le_of_values}
use lib.Ieee.Back.{round_whole}
use lib.Ieee.Positive as positive
use Rattle.whole.proofs.Tests.{both_hold}
use Rattle.calibrate_rows.specs.Doubles.{double}
use Rattle.calibrate_rows.specs.declared.RowValues.{RowValues}
use Rattle.calibrate_rows.specs.declared.RowNumbers.{RowNumbers}
use Rattle.calibrate_rows.specs.RowNumbers.{numerator, denominator, rounded_down, row_numbers, value_fits}
use Rattle.calibrate_rows.specs.Private.{exact, FiniteNotNegative, LargestNotAbove}

-- the size of a double as a fraction, in the words of the laws of floats
numerator_is : (x : Float) → numerator x ≡ positive.num x
numerator_is nan = refl
numerator_is (inf negative) = refl
numerator_is (fin negative m e) = refl

denominator_is : (x : Float) → denominator x ≡ positive.den x
denominator_is nan = refl
denominator_is (inf negative) = refl
denominator_is (fin negative m e) = refl

pub denominator_pos : (x : Float) → 0 < denominator x
denominator_pos x = rw (denominator_is x) (positive.den_pos x)

-- ---- the largest whole number not above a double

either_holds : (a b : Bool) → (a || b) ≡ true → (a ≡ true) ⊎ (b ≡ true)
either_holds true b e = inl refl
either_holds false b e = inr e

-- what is not above a double with a minus sign is zero, and so is that double
both_zero : (n m : ℕ) (e : ℤ) → le (exact n) (fin true m e) ≡ true → (n * down e ≡ 0) × (m * up e ≡ 0)
unfolding le lt eq
both_zero n m e h =
    let both = both_hold (eqb (n * 1 * down e) (m * up e * 1)) (eqb (n * 1 * down e) 0) h in
    let none = eqb-true (n * 1 * down e) 0 both.1 in
    (omega (arith, none), omega (arith, none, eqb-true (n * 1 * down e) (m * up e * 1) both.0))

-- a whole number is not above a double just where it is not above the fraction
under_fraction : (n : ℕ) (negative : Bool) (m : ℕ) (e : ℤ) → le (exact n) (fin negative m e) ≡ true → n * down e ≤ m * up e
unfolding le lt eq
under_fraction n true m e h = omega (arith, (both_zero n m e h).0)
under_fraction n false m e h =
    elim (either_holds (ltb (n * 1 * down e) (m * up e * 1)) _ h) [
      | inl less ↦ omega (arith, ltb-true (n * 1 * down e) (m * up e * 1) less)
      | inr same ↦ omega (arith, eqb-true (n * 1 * down e) (m * up e * 1) (both_hold _ _ same).0)
    ]

under_double : (n m : ℕ) (e : ℤ) → n * down e ≤ m * up e → le (exact n) (fin false m e) ≡ true
under_double n m e h =
    is_true _
    (le_of_values (exact n) (fin false m e) n 1 (m * up e) (down e) (lit< tt) (down_pos e) (refl, omega arith) (refl, refl) (omega arith))

with_plus : (m : ℕ) (e : ℤ) → FiniteNotNegative (fin false m e)
with_plus m e = record { is_finite = refl; least = under_double 0 m e (omega arith) }

-- a finite double that is not negative has one: what it is rounded down to
pub rounded : (x : Float) → FiniteNotNegative x → LargestNotAbove x (rounded_down x)
rounded nan p = absurd (false≢true p.is_finite)
rounded (inf negative) p = absurd (false≢true p.is_finite)
rounded (fin negative m e) p =
    record {
      not_above = by negative p.least;
      largest = λ n h. (le-div_iff_mul-le (down_pos e)).1 (under_fraction n negative m e h);
    }
  where
    by : (negative : Bool) → le (exact 0) (fin negative m e) ≡ true → le (exact (m * up e / down e)) (fin negative m e) ≡ true
    by true zero = rw ((both_zero 0 m e zero).1, zero-div (down e)) zero
    by false zero = under_double (m * up e / down e) m e ((le-div_iff_mul-le (down_pos e)).0 (omega arith))

-- no other double has one
pub only_not_negative : (x : Float) {r : ℕ} → LargestNotAbove x r → FiniteNotNegative x
unfolding le lt eq
only_not_negative nan one = absurd (false≢true one.not_above)
only_not_negative (inf true) one = absurd (false≢true one.not_above)
only_not_negative (inf false) {r} one = absurd (omega (arith, one.largest (r + 1) refl))
only_not_negative (fin true m e) {r} one =
    record { is_finite = refl; least = rw ((both_zero r m e one.not_above).1, eq-eqb (0 * 1 * down e) 0 (omega arith)) }
only_not_negative (fin false m e) one = with_plus m e

-- none has two
pub only_one : {x : Float} {r s : ℕ} → LargestNotAbove x r → LargestNotAbove x s → r ≡ s
only_one {r = r} {s} one other = omega (arith, one.largest s other.not_above, other.largest r one.not_above)

-- a whole number up to 2 ^ 53, as a double
double_value : (n : ℕ) → n ≤ 2 ^ 53 → HasValue (double n) false n 1
unfolding of_int
double_value n h = round_whole binary64 false n h

pub double_positive : (n : ℕ) → n ≤ 2 ^ 53 → 0 < n → T (positive.positive (double n))
double_positive n h p = positive.positive_of_value (double n) n 1 (double_value n h) p

-- x is finite and above zero, at least 1 and at most the limit
pub record InLimits (limit : ℕ) (x : Float) : Type 0 where
  pub above_zero : T (positive.positive x)
  pub least : denominator x ≤ numerator x
  pub most : numerator x ≤ limit * denominator x

yes : {b : Bool} → b ≡ true → T b
yes e = subst T (sym e) tt

one_positive : T (positive.positive (double 1))
one_positive = double_positive 1 (lit≤ tt) (lit< tt)

pub in_limits : (limit : ℕ) → limit ≤ 2 ^ 53 → 0 < limit → (x : Float) → value_fits limit x ≡ true → InLimits limit x
in_limits limit h p x e =
    let both = both_hold (le (double 1) x) (le x (double limit)) e in
    let inside : T (positive.positive x) = positive.between (double 1) x (double limit) one_positive (double_positive limit h p) (yes both.0) (yes both.1) in
    record {
      above_zero = inside;
      least =
          rw (numerator_is x, denominator_is x)
          (omega (arith, positive.values_of_le (double 1) x 1 1 (positive.num x) (positive.den x) one_positive inside (double_value 1 (lit≤ tt)) (positive.own_value x inside) (yes both.0)));
      most =
          rw (numerator_is x, denominator_is x)
          (omega (arith, positive.values_of_le x (double limit) (positive.num x) (positive.den x) limit 1 inside (double_positive limit h p) (positive.own_value x inside) (double_value limit h) (yes both.1)));
    }

pub fits_limits : (limit : ℕ) → limit ≤ 2 ^ 53 → 0 < limit → (x : Float) → InLimits limit x → value_fits limit x ≡ true
fits_limits limit h p x inside =
    let value = positive.own_value x inside.above_zero in
    let least : 1 * positive.den x ≤ positive.num x * 1 = omega (arith, rw (numerator_is x, denominator_is x) at inside.least) in
    let most : positive.num x * 1 ≤ limit * positive.den x = omega (arith, rw (numerator_is x, denominator_is x) at inside.most) in
    let low = is_true (le (double 1) x) (le_of_values (double 1) x 1 1 (positive.num x) (positive.den x) (lit< tt) (positive.den_pos x) (double_value 1 (lit≤ tt)) value least) in
    let high = is_true (le x (double limit)) (le_of_values x (double limit) (positive.num x) (positive.den x) limit 1 (positive.den_pos x) (lit< tt) value (double_value limit h) most) in
    rw (low, high)

-- what is above zero is not negative
not_negative : (x : Float) → T (positive.positive x) → FiniteNotNegative x
not_negative nan p = absurd p
not_negative (inf negative) p = absurd p
not_negative (fin true m e) p = absurd p
not_negative (fin false m e) p = with_plus m e

-- a value within a limit is within a larger one
pub wider : (x : Float) (limit more : ℕ) → 0 < limit → limit ≤ more → more ≤ 2 ^ 53 → value_fits limit x ≡ true → value_fits more x ≡ true
wider x limit more p le h e =
    let inside = in_limits limit (le_trans le h) p x e in
    fits_limits more h (omega arith) x
    (record { above_zero = inside.above_zero; least = inside.least; most = le_trans inside.most (mul-le-mul_right (denominator x) le) })

-- what is rounded down is at most the limit
pub rounded_most : (x : Float) (limit : ℕ) → InLimits limit x → rounded_down x ≤ limit
rounded_most x limit inside = div-le_of_le-mul (denominator x) (omega (arith, inside.most, mul_comm limit (denominator x)))

-- the whole part of a double within such a limit, as a cast that stops at the ends of its range gives it
pub whole_part : (x : Float) (limit : ℕ) → 0 < limit → limit < 2 ^ 32 → value_fits limit x ≡ true → LargestNotAbove x (to_unsigned 32 x)
unfolding to_unsigned
whole_part x limit some small fit =
    let inside = in_limits limit (le_trans (le_of_lt small) (lit≤ tt)) some x fit in
    rw (cut x inside.above_zero (omega (arith, rounded_most x limit inside))) (rounded x (not_negative x inside.above_zero))
  where
    uncapped : (a : ℕ) → a < 2 ^ 32 → min a (2 ^ 32 - 1) ≡ a
    uncapped a h = omega arith

    cut : (x : Float) → T (positive.positive x) → rounded_down x < 2 ^ 32 → to_unsigned 32 x ≡ rounded_down x
    cut nan p h = absurd p
    cut (inf negative) p h = absurd p
    cut (fin true m e) p h = absurd p
    cut (fin false m e) p h = uncapped (m * up e / down e) h

-- four numbers that are the largest not above four values
pub numbers_are : (values : RowValues) (v w capacity jam : ℕ) → LargestNotAbove values.v v → LargestNotAbove values.w w → LargestNotAbove values.capacity capacity → LargestNotAbove values.jam jam → ◌≡◌ {A = RowNumbers} (record { v = v; w = w; capacity = capacity; jam = jam }) (row_numbers values)
unfolding row_numbers
numbers_are values v w capacity jam hv hw hc hj =
    rw (is_rounded hv, is_rounded hw, is_rounded hc, is_rounded hj)
  where
    is_rounded : {x : Float} {r : ℕ} → LargestNotAbove x r → r ≡ rounded_down x
    is_rounded {x} one = only_one one (rounded x (only_not_negative x one))
