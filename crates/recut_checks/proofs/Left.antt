-- A sum that is counted down from what it has to come to: a loop takes term after term from what is left. Assumes nothing.
use Prim.Native.Nat.{ℕ, suc, ◌+◌, ◌-◌, ◌≤◌, ◌<◌, zero-le}
use mathlib.Core.Path.{◌≡◌, refl, sym, ◌∙◌}
use mathlib.Core.Bool.{false}
use native.Mathlib.Omega.{arith}
use native.Mathlib.Decide.{ℕ_discrete}
use borrow.Author.Tests.{eq-eqb, ne_eqb}
use lib.Dec.{eqb}
use Rattle.whole.specs.Sums.{sum}
use Rattle.whole.proofs.Sums.{sum_grows, sum_more}

module _ (n : ℕ) (f : ℕ → ℕ) (all : ℕ) where
  -- so much is left after k terms
  pub record Left (left k : ℕ) : Type 0 where
    pub reaches : k ≤ n
    pub rest : left + sum k f ≡ all

  pub begins : Left all 0
  begins = record { reaches = zero-le; rest = omega arith }

  module _ {left k term : ℕ} (at : Left left k) (h : k < n) (is : term ≡ f k) where
    pub takes : term ≤ left → Left (left - term) (k + 1)
    takes enough = record { reaches = omega arith; rest = omega (arith, at.rest, sum_more k f {v = term} refl is) }

    -- a term that is more than what is left is too much
    pub too_much : left < term → false ≡ eqb (sum n f) all
    too_much over = sym (ne_eqb (sum n f) all (λ e. omega (arith, at.rest, is, sum_grows (suc k) n f h)))

  -- where nothing is left of it, it is the sum
  pub ends : {left k : ℕ} → Left left k → n ≤ k → eqb left 0 ≡ eqb (sum n f) all
  ends {left} {k} at h = by (ℕ_discrete left 0)
    where
      rest : left + sum n f ≡ all
      rest = let same : n ≡ k = omega (arith, at.reaches) in rw same at.rest

      by : Dec (left ≡ 0) → eqb left 0 ≡ eqb (sum n f) all
      by (yes none) = eq-eqb left 0 none ∙ sym (eq-eqb (sum n f) all (omega (arith, none, rest)))
      by (no some) = ne_eqb left 0 some ∙ sym (ne_eqb (sum n f) all (λ e. some (omega (arith, rest))))
