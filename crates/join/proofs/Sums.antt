-- A law of sums over an index. Assumes nothing.
use Prim.Native.Nat.{ℕ, zero, suc, ◌≤◌, ◌<◌, zero-le}
use native.Mathlib.Omega.{arith}
use Rattle.whole.specs.Sums.{sum}

pub sum_of_smaller_terms : (n : ℕ) (f g : ℕ → ℕ) → ((i : ℕ) → i < n → f i ≤ g i) → sum n f ≤ sum n g
sum_of_smaller_terms zero f g less = zero-le
sum_of_smaller_terms (suc n) f g less =
    omega (arith, sum_of_smaller_terms n f g (λ i h. less i (omega arith)), less n (omega arith))
