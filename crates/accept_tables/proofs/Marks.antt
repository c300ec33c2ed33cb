-- The marks of ramp numbers, one bit each in words of 64: putting a mark up leaves the others as they are. Assumes nothing.
use Prim.Native.Nat.{ℕ, zero, suc, ◌+◌, ◌-◌, ◌*◌, ◌/◌, ◌%◌, ◌^◌, ◌<◌, max}
use mathlib.Core.Path.{◌≡◌, refl, sym, ap, ◌∙◌}
use mathlib.Core.Bool.{Bool, true, false}
use mathlib.Core.List.{List}
use native.Mathlib.Nat.{div-eq_of_lt, zero-div, one-mul, two-pow-succ, max-zero}
use native.Mathlib.Omega.{arith}
use native.Mathlib.Decide.{ℕ_discrete, dec_lt}
use borrow.Author.Tests.{eq-eqb}
use lib.Dec.{eqb}
use lib.Pow.{pow-lt, pow-add, shl_exact, shl-shr}
use lib.Bits.{bit_or, or_shr, or_step}
use lib.ListN.{length, get_or, set, replicate}
use lib.Seq.{get_or-set_same, get_or-set_other}

-- whether the mark of a number is up
abbrev pub up : List ℕ → ℕ → Bool
up marks a = eqb (get_or marks (a / 64) 0 / 2 ^ (a % 64) % 2) 1

-- a word with one more bit
abbrev pub with_mark : List ℕ → ℕ → List ℕ
with_mark marks a = set marks (a / 64) (bit_or (get_or marks (a / 64) 0) (2 ^ (a % 64)))

-- the bit that the code shifts into place stays within a word
pub bit_fits : (k : ℕ) → k < 64 → 1 * 2 ^ k % 2 ^ 64 ≡ 2 ^ k
bit_fits k h = shl_exact 1 k 64 (omega arith) (omega arith) ∙ one-mul (2 ^ k)

bit_of_or : (x y k : ℕ) → bit_or x y / 2 ^ k % 2 ≡ max (x / 2 ^ k % 2) (y / 2 ^ k % 2)
bit_of_or x y k = rw (or_shr x y k, or_step (x / 2 ^ k) (y / 2 ^ k)) (omega arith)

own_bit : (k : ℕ) → 2 ^ k / 2 ^ k % 2 ≡ 1
own_bit k = ap (λ x. x / 2 ^ k % 2) (sym (one-mul (2 ^ k))) ∙ ap (λ x. x % 2) (shl-shr 1 k)

other_bit : (k j : ℕ) → (j ≡ k → ⊥) → 2 ^ k / 2 ^ j % 2 ≡ 0
other_bit k j other = by (dec_lt k j)
  where
    by : Dec (k < j) → 2 ^ k / 2 ^ j % 2 ≡ 0
    by (yes above) = rw (div-eq_of_lt (pow-lt above))
    by (no below) =
        let d = k - suc j in
        let e : k ≡ suc d + j = omega (arith, below, other) in
        rw (e, pow-add 2 (suc d) j, shl-shr (2 ^ suc d) j, two-pow-succ d) (omega arith)

pub fresh_down : (n a : ℕ) → up (replicate n 0) a ≡ false
fresh_down n a = rw (fresh n (a / 64), zero-div (2 ^ (a % 64)))
  where
    fresh : (n a : ℕ) → ◌≡◌ {A = ℕ} (get_or (replicate n 0) a 0) 0
    fresh zero a = refl
    fresh (suc n) zero = refl
    fresh (suc n) (suc a) = fresh n a

module _ (marks : List ℕ) (a : ℕ) (h : a / 64 < length marks) where
  pub own_mark_up : up (with_mark marks a) a ≡ true
  own_mark_up =
      eq-eqb (get_or (with_mark marks a) (a / 64) 0 / 2 ^ (a % 64) % 2) 1
      (rw (get_or-set_same marks (a / 64) (bit_or (get_or marks (a / 64) 0) (2 ^ (a % 64))) 0 h, bit_of_or (get_or marks (a / 64) 0) (2 ^ (a % 64)) (a % 64), own_bit (a % 64)) (omega arith))

  pub other_marks_stay : (b : ℕ) → (b ≡ a → ⊥) → up (with_mark marks a) b ≡ up marks b
  other_marks_stay b other = by (ℕ_discrete (b / 64) (a / 64))
    where
      by : Dec (b / 64 ≡ a / 64) → up (with_mark marks a) b ≡ up marks b
      by (yes same) =
          rw (same, get_or-set_same marks (a / 64) (bit_or (get_or marks (a / 64) 0) (2 ^ (a % 64))) 0 h, bit_of_or (get_or marks (a / 64) 0) (2 ^ (a % 64)) (b % 64), other_bit (a % 64) (b % 64) (λ at. other (omega arith)), max-zero (get_or marks (a / 64) 0 / 2 ^ (b % 64) % 2))
      by (no apart) = rw (get_or-set_other marks (a / 64) (b / 64) (bit_or (get_or marks (a / 64) 0) (2 ^ (a % 64))) 0 apart)
