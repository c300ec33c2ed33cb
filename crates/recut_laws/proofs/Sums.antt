-- Laws of sums over an index that is reached in groups. Assumes nothing.
use Prim.Native.Nat.{ℕ, zero, suc, ◌+◌, ◌<◌}
use mathlib.Core.Path.{◌≡◌, refl, ap}
use native.Mathlib.Numerals.{unary_clauses}
use native.Mathlib.Omega.{arith}
use native.Mathlib.Decide.{dec_lt}
use Rattle.whole.specs.Sums.{sum}
use Rattle.whole.proofs.Sums.{sum_grows, sum_of_equal_terms}

pub sum-append : (a b : ℕ) (f : ℕ → ℕ) → sum (a + b) f ≡ sum a f + sum b (λ k. f (a + k))
sum-append a zero f = simp unary_clauses refl
sum-append a (suc b) f = simp unary_clauses (omega (arith, sum-append a b f))

-- the groups of those sizes follow each other; the n of them from the one of index a on are summed group by group, or all at once
pub sum_in_groups : (size f : ℕ → ℕ) (a n : ℕ)
    → sum n (λ g. sum (size (a + g)) (λ k. f (sum (a + g) size + k))) ≡ sum (sum n (λ g. size (a + g))) (λ m. f (sum a size + m))
sum_in_groups size f a zero = refl
sum_in_groups size f a (suc n) =
    let before = sum n (λ g. size (a + g)) in
    let last = size (a + n) in
    let shifted : ℕ → ℕ = λ k. f (sum a size + (before + k)) in
    let same = sum_of_equal_terms last (λ k. f (sum (a + n) size + k)) shifted (λ k h. ap f (omega (arith, sum-append a n size))) in
    omega (arith, sum_in_groups size f a n, sum-append before last (λ m. f (sum a size + m)), same)

-- a place in a group lies before the end of the last one
pub place_inside : (size : ℕ → ℕ) {n total i k : ℕ} → sum n size ≡ total → i < n → k < size i → sum i size + k < total
place_inside size {n} {total} {i} all h below = omega (arith, all, below, sum_grows (suc i) n size h)

-- an index stands in one group, at one place
pub one_place : (size : ℕ → ℕ) {i k i' k' : ℕ} → sum i size + k ≡ sum i' size + k' → k < size i → k' < size i'
    → (i ≡ i') × (k ≡ k')
one_place size {i} {k} {i'} {k'} e h h' = by (dec_lt i i') (dec_lt i' i)
  where
    by : Dec (i < i') → Dec (i' < i) → (i ≡ i') × (k ≡ k')
    by (yes before) _ = absurd (omega (arith, e, h, sum_grows (suc i) i' size before))
    by (no _) (yes after) = absurd (omega (arith, e, h', sum_grows (suc i') i size after))
    by (no p) (no q) =
        let same : i ≡ i' = omega (arith, p, q) in
        (same, omega (arith, rw same at e))
