-- The exponent of a double within the largest limit of a row value: its field is at most 1,075. Assumes nothing.
use Rattle.std.proofs.Common.{◌≡◌, ℕ, ◌+◌, ◌-◌, ◌*◌, ◌/◌, ◌^◌, ◌<◌, ◌≤◌, true, false, T, ◌∙◌, lt_of_lt_of_le, le_of_eq, mod-eq_of_lt, div-lt_iff_lt-mul, mul-lt-mul_of_pos_right, mul_right_comm, arith, lit<, lit≤, pow_pos}
use lib.Bits.{bit_and, and_mask}
use lib.Ieee.{Float, nan, inf, fin, binary64, up, down, size, to_bits}
use lib.Ieee.Digits.{size-le}
use lib.Ieee.Fits.{kept-lt, down_pos}
use lib.Ieee.Positive as positive
use Rattle.calibrate_rows.specs.RowNumbers.{numerator, denominator, value_fits}
use Rattle.calibrate_rows.proofs.Rounding.{in_limits}

field_most : (k q : ℕ) → k ≤ 1074 → q < 9007199254740992 → (0 + k * 4503599627370496 + q) / 4503599627370496 ≤ 1075
field_most k q h l = omega arith

dropped : (s : ℕ) → s ≤ 1127 → s - 53 ≤ 1074
dropped s h = omega arith

-- a fraction below 2 ^ 53 has at most 1,127 digits in units of 2 ^ -1074
digits_most : (n d : ℕ) → 0 < d → n ≤ 9007199254740991 * d → n * 2 ^ 1074 / d < 2 ^ 1127
digits_most n d p h =
    let below : n < 9007199254740992 * d = omega arith in
    (div-lt_iff_lt-mul p).1
    (lt_of_lt_of_le (mul-lt-mul_of_pos_right below (pow_pos 1074)) (le_of_eq (mul_right_comm 9007199254740992 d (2 ^ 1074))))

bits_most : (x : Float) → T (positive.positive x) → numerator x ≤ 9007199254740991 * denominator x → to_bits binary64 x / 4503599627370496 ≤ 1075
unfolding to_bits
bits_most nan p h = absurd p
bits_most (inf negative) p h = absurd p
bits_most (fin true m e) p h = absurd p
bits_most (fin false m e) p h =
    let n = m * up e * 2 ^ 1074 / down e in
    let k = size n - 53 in
    field_most k (n / 2 ^ k) (dropped (size n) (size-le n 1127 (digits_most (m * up e) (down e) (down_pos e) h))) (kept-lt 53 n)

pub exponent_most : (x : Float) → value_fits 4_000_000 x ≡ true → bit_and (to_bits binary64 x / 4503599627370496) 2047 ≤ 1075
exponent_most x fit =
    let inside = in_limits 4_000_000 (lit≤ tt) (lit< tt) x fit in
    let field = bits_most x inside.above_zero (omega (arith, inside.most)) in
    rw (and_mask (to_bits binary64 x / 4503599627370496) 11 ∙ mod-eq_of_lt (omega (arith, field))) field
