-- Doubles that are not negative, and how sums, products and quotients keep them so, below a bound. Assumes nothing.
use Prim.Native.Nat.{ℕ, zero, suc, ◌+◌, ◌-◌, ◌*◌, ◌^◌, ◌≤◌, ◌<◌}
use mathlib.Core.Path.{◌≡◌, sym, ap, ◌∙◌}
use mathlib.Core.Logic.{◌⊎◌, inl, inr}
use mathlib.Core.Bool.{Bool, true, false, ◌&&◌, ◌||◌, cond, true≢false, false≢true}
use native.Mathlib.Nat.{le_trans, le_of_eq, le_of_lt, mul-one, mul_comm, mul_assoc, mul_right_comm, mul-mul-mul_comm, mul-le-mul, mul-le-mul_right, mul-pos, add-mul, le_of_mul-le-mul_right}
use native.Mathlib.Omega.{arith}
use borrow.Author.Tests.{le-ltb, ltb-true, ltb-false, eq-eqb, ne_eqb}
use lib.IntN.{ℤ}
use lib.Dec.{T, ltb, eqb, ltb→lt, lt→ltb, eqb→eq, lit<}
use lib.Ieee.{Float, nan, inf, fin, binary64, up, down, prec, low, emax, units, odd, round, add, sub, neg, mul, div, sum, lt, le, eq, of_int}
use lib.Ieee.Fits.{up_pos, down_pos, round_is}
use lib.Ieee.Exact.{HasValue, odd_sign}
use lib.Ieee.Order.{round_mono}
use lib.Ieee.Back.{round_whole}
use lib.Ieee.Positive as positive
use Rattle.calibrate_rows.specs.Doubles.{◌⊕◌, ◌⊖◌, ◌⊗◌, ◌⊘◌, double, is_zero}

-- finite, not negative, and at most a whole number
abbrev pub UpTo : ℕ → Float → Type 0
UpTo most nan = ⊥
UpTo most (inf negative) = ⊥
UpTo most (fin true m e) = ⊥
UpTo most (fin false m e) = m * up e ≤ most * down e

-- no NaN and not negative; plus infinity is such a double, and minus zero is not
abbrev pub NotNegative : Float → Type 0
NotNegative nan = ⊥
NotNegative (inf true) = ⊥
NotNegative (inf false) = Unit
NotNegative (fin true m e) = ⊥
NotNegative (fin false m e) = Unit

-- above zero, plus infinity among them
abbrev pub Above : Float → Type 0
Above x = T (positive.above x)

pub not_negative : (most : ℕ) (x : Float) → UpTo most x → NotNegative x
not_negative most nan h = absurd h
not_negative most (inf negative) h = absurd h
not_negative most (fin true m e) h = absurd h
not_negative most (fin false m e) h = tt

pub up_to_more : (most more : ℕ) (x : Float) → UpTo most x → most ≤ more → UpTo more x
up_to_more most more nan h l = absurd h
up_to_more most more (inf negative) h l = absurd h
up_to_more most more (fin true m e) h l = absurd h
up_to_more most more (fin false m e) h l = le_trans h (mul-le-mul_right (down e) l)

-- ---- rounding keeps the sign, and a bound that is a whole number up to 2 ^ 53

of_value : (x : Float) (a c : ℕ) → HasValue x false a c → NotNegative x
of_value nan a c h = absurd h
of_value (inf negative) a c h = absurd h
of_value (fin true m e) a c h = absurd (true≢false h.0)
of_value (fin false m e) a c h = tt

units_sign : (q k : ℕ) → NotNegative (units binary64 false q k)
unfolding units
units_sign q k = by (ltb (q * 2 ^ k) (2 ^ (low binary64 + suc (emax binary64))))
  where
    by : (b : Bool) → NotNegative (cond b (odd (suc (prec binary64)) false q k (low binary64)) (inf false))
    by true = of_value (odd (suc (prec binary64)) false q k (low binary64)) (q * 2 ^ k) (2 ^ low binary64) (odd_sign (suc (prec binary64)) false q k (low binary64))
    by false = tt

pub round_sign : (a c : ℕ) → NotNegative (round binary64 false a c)
round_sign a c = rw (round_is binary64 false a c) (units_sign _ _)

either : (p q : Bool) → T (p || (q && true)) → T p ⊎ T q
either true q h = inl tt
either false true h = inr tt
either false false h = absurd h

-- two doubles that are not negative, the first at most the second
abbrev pub AtMost : Float → Float → Type 0
AtMost nan y = ⊥
AtMost (inf negative) y = ⊥
AtMost (fin true m e) y = ⊥
AtMost (fin false m e) nan = ⊥
AtMost (fin false m e) (inf negative) = ⊥
AtMost (fin false m e) (fin true n d) = ⊥
AtMost (fin false m e) (fin false n d) = m * up e * down d ≤ n * up d * down e

le_at_most : (m n : ℕ) (e d : ℤ) → T (le (fin false m e) (fin false n d)) → AtMost (fin false m e) (fin false n d)
unfolding le lt eq
le_at_most m n e d h =
    elim
    (either (ltb (m * up e * down d) (n * up d * down e)) (eqb (m * up e * down d) (n * up d * down e)) h) [
      | inl l ↦ le_of_lt (ltb→lt (m * up e * down d) (n * up d * down e) l)
      | inr s ↦ le_of_eq (eqb→eq (m * up e * down d) (n * up d * down e) s)
    ]

-- what is at most a double that is at most a whole number is at most that number
crossed : (p u q v most : ℕ) → 0 < v → p * v ≤ q * u → q ≤ most * v → p ≤ most * u
crossed p u q v most pos h k =
    le_of_mul-le-mul_right (le_trans h (le_trans (mul-le-mul_right u k) (le_of_eq (mul_right_comm most v u)))) pos

pub at_most_up_to : (most : ℕ) (x y : Float) → AtMost x y → UpTo most y → UpTo most x
at_most_up_to most nan y h k = absurd h
at_most_up_to most (inf negative) y h k = absurd h
at_most_up_to most (fin true m e) y h k = absurd h
at_most_up_to most (fin false m e) nan h k = absurd h
at_most_up_to most (fin false m e) (inf negative) h k = absurd h
at_most_up_to most (fin false m e) (fin true n d) h k = absurd h
at_most_up_to most (fin false m e) (fin false n d) h k = crossed (m * up e) (down e) (n * up d) (down d) most (down_pos d) h k

value_up_to : (most : ℕ) (x : Float) → HasValue x false most 1 → UpTo most x
value_up_to most nan h = absurd h
value_up_to most (inf negative) h = absurd h
value_up_to most (fin true m e) h = absurd (true≢false h.0)
value_up_to most (fin false m e) h = le_of_eq (sym (mul-one (m * up e)) ∙ h.1)

pub le_value : (x y : Float) → NotNegative x → NotNegative y → T (le x y) → (most : ℕ) → UpTo most y → UpTo most x
unfolding le lt eq
le_value nan y p q h most k = absurd p
le_value (inf true) y p q h most k = absurd p
le_value (inf false) nan p q h most k = absurd q
le_value (inf false) (inf negative) p q h most k = absurd k
le_value (inf false) (fin negative n d) p q h most k = absurd h
le_value (fin true m e) y p q h most k = absurd p
le_value (fin false m e) nan p q h most k = absurd q
le_value (fin false m e) (inf negative) p q h most k = absurd k
le_value (fin false m e) (fin true n d) p q h most k = absurd q
le_value (fin false m e) (fin false n d) p q h most k = at_most_up_to most (fin false m e) (fin false n d) (le_at_most m n e d h) k

pub round_up_to : (a c most : ℕ) → 0 < c → most ≤ 2 ^ 53 → a ≤ most * c → UpTo most (round binary64 false a c)
round_up_to a c most pos fits h =
    let value = round_whole binary64 false most fits in
    let top = value_up_to most (round binary64 false most 1) value in
    le_value (round binary64 false a c) (round binary64 false most 1) (round_sign a c) (round_sign most 1)
    (round_mono binary64 a c most 1 pos (lit< tt) (le_trans (le_of_eq (mul-one a)) h))
    most top

pub double_up_to : (n : ℕ) → n ≤ 2 ^ 53 → UpTo n (double n)
unfolding of_int
double_up_to n h = value_up_to n (round binary64 false n 1) (round_whole binary64 false n h)

-- ---- sums, differences, products and quotients

sums_fit : (p q a b u v : ℕ) → p ≤ a * u → q ≤ b * v → p * v + q * u ≤ (a + b) * (u * v)
sums_fit p q a b u v h k = omega (arith, mul-le-mul_right v h, mul-le-mul_right u k, add-mul a b (u * v), mul_assoc a u v, mul_assoc b v u, ap (λ n. b * n) (mul_comm v u))

pub add_up_to : (a b : ℕ) (x y : Float) → UpTo a x → UpTo b y → a + b ≤ 2 ^ 53 → UpTo (a + b) (x ⊕ y)
unfolding add sum
add_up_to a b nan y h k fits = absurd h
add_up_to a b (inf negative) y h k fits = absurd h
add_up_to a b (fin true m e) y h k fits = absurd h
add_up_to a b (fin false m e) nan h k fits = absurd k
add_up_to a b (fin false m e) (inf negative) h k fits = absurd k
add_up_to a b (fin false m e) (fin true n d) h k fits = absurd k
add_up_to a b (fin false m e) (fin false n d) h k fits =
    round_up_to (m * up e * down d + n * up d * down e) (down e * down d) (a + b) (mul-pos (down_pos e) (down_pos d)) fits (sums_fit (m * up e) (n * up d) a b (down e) (down d) h k)

pub mul_up_to : (a b : ℕ) (x y : Float) → UpTo a x → UpTo b y → a * b ≤ 2 ^ 53 → UpTo (a * b) (x ⊗ y)
unfolding mul
mul_up_to a b nan y h k fits = absurd h
mul_up_to a b (inf negative) y h k fits = absurd h
mul_up_to a b (fin true m e) y h k fits = absurd h
mul_up_to a b (fin false m e) nan h k fits = absurd k
mul_up_to a b (fin false m e) (inf negative) h k fits = absurd k
mul_up_to a b (fin false m e) (fin true n d) h k fits = absurd k
mul_up_to a b (fin false m e) (fin false n d) h k fits =
    round_up_to (m * up e * (n * up d)) (down e * down d) (a * b) (mul-pos (down_pos e) (down_pos d)) fits
    (le_trans (mul-le-mul h k) (le_of_eq (mul-mul-mul_comm a (down e) b (down d))))

-- the second is at most the first
pub sub_up_to : (most : ℕ) (x y : Float) → UpTo most x → AtMost y x → most ≤ 2 ^ 53 → UpTo most (x ⊖ y)
unfolding sub add neg sum
sub_up_to most nan y h k fits = absurd h
sub_up_to most (inf negative) y h k fits = absurd h
sub_up_to most (fin true m e) y h k fits = absurd h
sub_up_to most (fin false m e) nan h k fits = absurd k
sub_up_to most (fin false m e) (inf negative) h k fits = absurd k
sub_up_to most (fin false m e) (fin true n d) h k fits = absurd k
sub_up_to most (fin false m e) (fin false n d) h k fits =
    rw (le-ltb (m * up e * down d) (n * up d * down e) k)
    (round_up_to (m * up e * down d - n * up d * down e) (down e * down d) most (mul-pos (down_pos e) (down_pos d)) fits
    (omega (arith, mul-le-mul_right (down d) h, mul_assoc most (down e) (down d))))

-- a quotient whose divisor is at least one over a whole number
pub record AtLeastOneOver (parts : ℕ) (x : Float) : Type 0 where
  pub above_zero : T (positive.positive x)
  pub least : positive.den x ≤ parts * positive.num x

quotients_fit : (p q a b u v : ℕ) → p ≤ a * u → v ≤ b * q → p * v ≤ a * b * (q * u)
quotients_fit p q a b u v h k =
    le_trans (mul-le-mul h k) (le_of_eq (mul-mul-mul_comm a u b q ∙ ap (λ n. a * b * n) (mul_comm u q)))

not_zero : (n : ℕ) → 0 < n → eqb n 0 ≡ false
not_zero n h = ne_eqb n 0 (λ e. omega arith)

pub div_up_to : (a b : ℕ) (x y : Float) → UpTo a x → AtLeastOneOver b y → a * b ≤ 2 ^ 53 → UpTo (a * b) (x ⊘ y)
unfolding div
div_up_to a b nan y h k fits = absurd h
div_up_to a b (inf negative) y h k fits = absurd h
div_up_to a b (fin true m e) y h k fits = absurd h
div_up_to a b (fin false m e) nan h k fits = absurd k.above_zero
div_up_to a b (fin false m e) (inf negative) h k fits = absurd k.above_zero
div_up_to a b (fin false m e) (fin true n d) h k fits = absurd k.above_zero
div_up_to a b (fin false m e) (fin false n d) h k fits =
    rw (not_zero n (ltb→lt 0 n k.above_zero))
    (round_up_to (m * up e * down d) (n * up d * down e) (a * b) (mul-pos (mul-pos (ltb→lt 0 n k.above_zero) (up_pos d)) (down_pos e)) fits
    (quotients_fit (m * up e) (n * up d) a b (down e) (down d) h k.least))

-- ---- with plus infinity among them

pub add_sign : (x y : Float) → NotNegative x → NotNegative y → NotNegative (x ⊕ y)
unfolding add sum
add_sign nan y h k = absurd h
add_sign (inf true) y h k = absurd h
add_sign (inf false) nan h k = absurd k
add_sign (inf false) (inf true) h k = absurd k
add_sign (inf false) (inf false) h k = tt
add_sign (inf false) (fin negative n d) h k = tt
add_sign (fin true m e) y h k = absurd h
add_sign (fin false m e) nan h k = absurd k
add_sign (fin false m e) (inf true) h k = absurd k
add_sign (fin false m e) (inf false) h k = tt
add_sign (fin false m e) (fin true n d) h k = absurd k
add_sign (fin false m e) (fin false n d) h k = round_sign (m * up e * down d + n * up d * down e) (down e * down d)

-- the other factor is finite and above zero
pub mul_sign : (x y : Float) → NotNegative x → T (positive.positive y) → NotNegative (x ⊗ y)
unfolding mul
mul_sign nan y h k = absurd h
mul_sign (inf true) y h k = absurd h
mul_sign (inf false) nan h k = absurd k
mul_sign (inf false) (inf negative) h k = absurd k
mul_sign (inf false) (fin true n d) h k = absurd k
mul_sign (inf false) (fin false n d) h k = rw (not_zero n (ltb→lt 0 n k)) tt
mul_sign (fin true m e) y h k = absurd h
mul_sign (fin false m e) nan h k = absurd k
mul_sign (fin false m e) (inf negative) h k = absurd k
mul_sign (fin false m e) (fin true n d) h k = absurd k
mul_sign (fin false m e) (fin false n d) h k = round_sign (m * up e * (n * up d)) (down e * down d)

-- the divisor is finite and above zero
pub div_sign : (x y : Float) → NotNegative x → T (positive.positive y) → NotNegative (x ⊘ y)
unfolding div
div_sign nan y h k = absurd h
div_sign (inf true) y h k = absurd h
div_sign (inf false) nan h k = absurd k
div_sign (inf false) (inf negative) h k = absurd k
div_sign (inf false) (fin true n d) h k = absurd k
div_sign (inf false) (fin false n d) h k = tt
div_sign (fin true m e) y h k = absurd h
div_sign (fin false m e) nan h k = absurd k
div_sign (fin false m e) (inf negative) h k = absurd k
div_sign (fin false m e) (fin true n d) h k = absurd k
div_sign (fin false m e) (fin false n d) h k = rw (not_zero n (ltb→lt 0 n k)) (round_sign (m * up e * down d) (n * up d * down e))

-- the divisor is above zero, or plus infinity under a finite double
pub div_above_sign : (most : ℕ) (x y : Float) → UpTo most x → Above y → NotNegative (x ⊘ y)
unfolding div
div_above_sign most nan y h k = absurd h
div_above_sign most (inf negative) y h k = absurd h
div_above_sign most (fin true m e) y h k = absurd h
div_above_sign most (fin false m e) nan h k = absurd k
div_above_sign most (fin false m e) (inf true) h k = absurd k
div_above_sign most (fin false m e) (inf false) h k = tt
div_above_sign most (fin false m e) (fin true n d) h k = absurd k
div_above_sign most (fin false m e) (fin false n d) h k = rw (not_zero n (ltb→lt 0 n k)) (round_sign (m * up e * down d) (n * up d * down e))

-- what is not negative and not zero is above zero
zero_is_zero : (e : ℤ) → is_zero (fin false 0 e) ≡ true
unfolding eq of_int
zero_is_zero e = rw (eq-eqb (0 * up e * 1) (0 * 1 * down e) (omega arith))

pub above_zero : (x : Float) → NotNegative x → is_zero x ≡ false → Above x
above_zero nan h k = absurd h
above_zero (inf true) h k = absurd h
above_zero (inf false) h k = tt
above_zero (fin true m e) h k = absurd h
above_zero (fin false zero e) h k = absurd (true≢false (sym (zero_is_zero e) ∙ k))
above_zero (fin false (suc m) e) h k = lt→ltb 0 (suc m) (omega arith)

pub above_sign : (x : Float) → Above x → NotNegative x
above_sign nan h = absurd h
above_sign (inf true) h = absurd h
above_sign (inf false) h = tt
above_sign (fin true m e) h = absurd h
above_sign (fin false m e) h = tt

-- ---- comparisons
pub less_at_most : (most : ℕ) (x y : Float) → NotNegative x → UpTo most y → lt x y ≡ true → AtMost x y
unfolding lt
less_at_most most nan y h k l = absurd h
less_at_most most (inf true) y h k l = absurd h
less_at_most most (inf false) nan h k l = absurd k
less_at_most most (inf false) (inf negative) h k l = absurd k
less_at_most most (inf false) (fin true n d) h k l = absurd k
less_at_most most (inf false) (fin false n d) h k l = absurd (false≢true l)
less_at_most most (fin true m e) y h k l = absurd h
less_at_most most (fin false m e) nan h k l = absurd k
less_at_most most (fin false m e) (inf negative) h k l = absurd k
less_at_most most (fin false m e) (fin true n d) h k l = absurd k
less_at_most most (fin false m e) (fin false n d) h k l = le_of_lt (ltb-true (m * up e * down d) (n * up d * down e) l)

pub not_less_at_most : (a b : ℕ) (x y : Float) → UpTo a x → UpTo b y → lt x y ≡ false → AtMost y x
unfolding lt
not_less_at_most a b nan y h k l = absurd h
not_less_at_most a b (inf negative) y h k l = absurd h
not_less_at_most a b (fin true m e) y h k l = absurd h
not_less_at_most a b (fin false m e) nan h k l = absurd k
not_less_at_most a b (fin false m e) (inf negative) h k l = absurd k
not_less_at_most a b (fin false m e) (fin true n d) h k l = absurd k
not_less_at_most a b (fin false m e) (fin false n d) h k l = ltb-false (m * up e * down d) (n * up d * down e) l

pub at_most_self : (most : ℕ) (x : Float) → UpTo most x → AtMost x x
at_most_self most nan h = absurd h
at_most_self most (inf negative) h = absurd h
at_most_self most (fin true m e) h = absurd h
at_most_self most (fin false m e) h = omega arith

pub at_most_trans : (x y z : Float) → AtMost x y → AtMost y z → AtMost x z
at_most_trans nan y z h k = absurd h
at_most_trans (inf negative) y z h k = absurd h
at_most_trans (fin true m e) y z h k = absurd h
at_most_trans (fin false m e) nan z h k = absurd h
at_most_trans (fin false m e) (inf negative) z h k = absurd h
at_most_trans (fin false m e) (fin true n d) z h k = absurd h
at_most_trans (fin false m e) (fin false n d) nan h k = absurd k
at_most_trans (fin false m e) (fin false n d) (inf negative) h k = absurd k
at_most_trans (fin false m e) (fin false n d) (fin true o c) h k = absurd k
at_most_trans (fin false m e) (fin false n d) (fin false o c) h k =
    positive.through (m * up e) (n * up d) (o * up c) (down e) (down d) (down c) (down_pos d) h k
