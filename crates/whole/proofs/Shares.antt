-- Bounds on a share over ONE. Assumes nothing.
use Prim.Native.Nat.{ℕ, ◌+◌, ◌-◌, ◌*◌, ◌^◌, ◌≤◌, ◌<◌}
use native.Mathlib.Nat.{mul-le-mul, mul-le-mul_right, add-mul}
use native.Mathlib.Omega.{arith}
use Rattle.whole.specs.Share.{ONE, share}

pub product_fits : (a b : ℕ) → a < 2 ^ 32 → b < 2 ^ 32 → a * b < 2 ^ 64
product_fits a b ha hb =
    let ga : a ≤ 2 ^ 32 - 1 = omega arith in
    let gb : b ≤ 2 ^ 32 - 1 = omega arith in
    omega (arith, mul-le-mul ga gb)

-- a share of at most ONE takes no more than the whole
pub share_within : (a whole : ℕ) → a ≤ ONE → share a whole ≤ whole
share_within a whole h = omega (arith, mul-le-mul_right whole h)

-- two shares that make at most ONE take no more than the whole between them
pub shares_fit : (w x whole : ℕ) → w + x ≤ ONE → share w whole + share x whole ≤ whole
shares_fit w x whole h = omega (arith, mul-le-mul_right whole h, add-mul w x whole)
