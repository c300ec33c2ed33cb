-- The shares of a cut cell: all of them are the whole, and each fits its piece. Assumes nothing.
use Prim.Native.Nat.{ℕ, suc, ◌+◌, ◌*◌, ◌/◌, ◌≤◌, ◌<◌}
use mathlib.Core.Path.{◌≡◌}
use native.Mathlib.Nat.{mul-le-mul_right, div-lt_iff_lt-mul, mul-add, add-mul, suc-mul, mul_comm, mul-div_cancel}
use native.Mathlib.Omega.{arith}
use Rattle.recut.specs.Recut.{piece_vehicles}

pub share_of_all : (n J : ℕ) → 0 < J → n * J / J ≡ n
share_of_all n J h = mul-div_cancel n h

-- a piece gets no more than its jam count
pub piece_fits : (n J before jam : ℕ) → 0 < J → n ≤ J → piece_vehicles n J before jam ≤ jam
piece_fits n J before jam h within = omega (arith, less)
  where
    next : n * before < suc (n * before / J) * J
    next = (div-lt_iff_lt-mul h).0 (omega arith)

    less : n * (before + jam) / J < suc (n * before / J + jam)
    less =
        (div-lt_iff_lt-mul h).1
        (omega (arith, mul-add n before jam, next, mul-le-mul_right jam within, suc-mul (n * before / J) J, suc-mul (n * before / J + jam) J, add-mul (n * before / J) jam J, mul_comm J jam))
