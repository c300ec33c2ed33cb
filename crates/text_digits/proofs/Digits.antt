-- The decimal digits of a number: a digit alone, or the digits of its tenth part and the last one. Assumes nothing.
use Prim.Native.Nat.{ℕ, zero, suc, ◌+◌, ◌/◌, ◌%◌, ◌^◌, ◌≤◌, ◌<◌, zero-le, suc-le-suc}
use mathlib.Core.Path.{◌≡◌, refl, ap, sym, ◌∙◌}
use mathlib.Core.Bool.{Bool, true, false}
use mathlib.Core.List.{List, [], ◌∷◌, ◌++◌}
use native.Mathlib.Nat.{not-suc-le-zero, pow-suc, div-lt_iff_lt-mul}
use native.Mathlib.Omega.{arith}
use borrow.Author.Tests.{lt-ltb, le-ltb, ltb-true, ltb-false}
use lib.Dec.{ltb}
use lib.ListN.{length, set, length-append, length-set}
use lib.Seq.{sets}
use Rattle.whole.specs.Search.{pick}
use Rattle.text_digits.proofs.Stores.{stores_after}
use Rattle.text_digits.specs.Lines.{DIGIT, last_digits, digits_of}

-- it matters not how many digits are asked for, so long as they are enough
same_digits : (k m n : ℕ) → n < k → n < m → last_digits k n ≡ last_digits m n
unfolding last_digits
same_digits zero m n h g = absurd (not-suc-le-zero h)
same_digits (suc k) zero n h g = absurd (not-suc-le-zero g)
same_digits (suc k) (suc m) n h g = by (ltb n 10) refl (λ big. same_digits k m (n / 10) (omega arith) (omega arith))
  where
    by : (b : Bool) → ltb n 10 ≡ b → (10 ≤ n → last_digits k (n / 10) ≡ last_digits m (n / 10))
        → pick b ((DIGIT + n) ∷ []) (last_digits k (n / 10) ++ (DIGIT + n % 10) ∷ []) ≡ pick b ((DIGIT + n) ∷ []) (last_digits m (n / 10) ++ (DIGIT + n % 10) ∷ [])
    by true e same = refl
    by false e same = rw (same (ltb-false n 10 e))

pub one_digit : (n : ℕ) → n < 10 → digits_of n ≡ (DIGIT + n) ∷ []
unfolding digits_of last_digits
one_digit n h = rw (lt-ltb n 10 h)

pub more_digits_lem : (n : ℕ) → 10 ≤ n → digits_of n ≡ digits_of (n / 10) ++ (DIGIT + n % 10) ∷ []
unfolding digits_of last_digits
more_digits_lem n h = rw (le-ltb n 10 h) (ap (λ (l : List ℕ). l ++ (DIGIT + n % 10) ∷ []) (same_digits n (suc (n / 10)) (n / 10) (omega arith) (omega arith)))

pub one_longer : (n : ℕ) → 10 ≤ n → length (digits_of n) ≡ length (digits_of (n / 10)) + 1
one_longer n h = ap length (more_digits_lem n h) ∙ length-append (digits_of (n / 10)) ((DIGIT + n % 10) ∷ [])

-- a number below 10^k has at most k digits
pub at_most : (k n : ℕ) → 1 ≤ k → n < 10 ^ k → length (digits_of n) ≤ k
at_most zero n some h = absurd (not-suc-le-zero some)
at_most (suc k) n some h = by (ltb n 10) refl (λ big more. at_most k (n / 10) more (tenth big))
  where
    tenth : 10 ≤ n → n / 10 < 10 ^ k
    tenth big = let ten : zero < 10 = omega arith in (div-lt_iff_lt-mul ten).1 (rw pow-suc at h)

    by : (b : Bool) → ltb n 10 ≡ b → (10 ≤ n → 1 ≤ k → length (digits_of (n / 10)) ≤ k) → length (digits_of n) ≤ suc k
    by true e shorter = rw (one_digit n (ltb-true n 10 e)) some
    by false e shorter = longer k (ltb-false n 10 e) h shorter
      where
        longer : (j : ℕ) → 10 ≤ n → n < 10 ^ suc j → (10 ≤ n → 1 ≤ j → length (digits_of (n / 10)) ≤ j) → length (digits_of n) ≤ suc j
        longer zero big small shorter = absurd (omega (arith, small))
        longer (suc j) big small shorter = omega (arith, one_longer n big, shorter big (suc-le-suc zero-le))

-- no 64-bit number has more than 20
pub at_most_20 : (n : ℕ) → n < 2 ^ 64 → length (digits_of n) ≤ 20
at_most_20 n h = at_most 20 n (omega arith) (omega arith)

pub some_digit : (n : ℕ) → 1 ≤ length (digits_of n)
some_digit n = by (ltb n 10) refl
  where
    by : (b : Bool) → ltb n 10 ≡ b → 1 ≤ length (digits_of n)
    by true e = rw (one_digit n (ltb-true n 10 e)) (suc-le-suc zero-le)
    by false e = omega (arith, one_longer n (ltb-false n 10 e))

-- the digits before the last are stored, and then the last
pub last_digit_stored : (l : List ℕ) (at n : ℕ) → 10 ≤ n
    → set (sets l at (digits_of (n / 10))) (at + length (digits_of (n / 10))) (DIGIT + n % 10) ≡ sets l at (digits_of n)
last_digit_stored l at n h = rw (more_digits_lem n h) (sym (stores_after l at (digits_of (n / 10)) ((DIGIT + n % 10) ∷ [])))

-- Digits stored one by one from the position `at` on, the most significant first: those of m stand in the buffer, at most k of them.
-- None does while m is 0.

unfoldable pub stored : ℕ → List ℕ
stored m = pick (ltb m 1) [] (digits_of m)

all_stored : (m : ℕ) → 1 ≤ m → stored m ≡ digits_of m
unfolding stored
all_stored m some = rw (le-ltb m 1 some)

none_stored : (m : ℕ) → m ≡ 0 → stored m ≡ []
unfolding stored
none_stored m none = rw none

next_stored : (m : ℕ) → 1 ≤ m → stored m ≡ stored (m / 10) ++ (DIGIT + m % 10) ∷ []
next_stored m some = all_stored m some ∙ by (ltb m 10) refl
  where
    by : (b : Bool) → ltb m 10 ≡ b → digits_of m ≡ stored (m / 10) ++ (DIGIT + m % 10) ∷ []
    by true e =
        let small = ltb-true m 10 e in
        let last : m % 10 ≡ m = omega arith in
        one_digit m small ∙ rw (none_stored (m / 10) (omega arith), last)
    by false e =
        let big = ltb-false m 10 e in
        more_digits_lem m big ∙ rw (all_stored (m / 10) (omega arith))

pub record Storing (buffer₀ : List ℕ) (at k m : ℕ) (buffer : List ℕ) (next : ℕ) : Type 0 where
  pub stores : buffer ≡ sets buffer₀ at (stored m)
  pub ends : next ≡ at + length (stored m)
  pub same : length buffer ≡ length buffer₀
  pub most : next ≤ at + k

pub storing_begins : (buffer : List ℕ) (at m : ℕ) → m ≡ 0 → Storing buffer at 0 m buffer at
storing_begins buffer at m none =
    record { stores = rw (none_stored m none); ends = rw (none_stored m none) (omega arith); same = refl; most = omega arith }

module _ {buffer₀ : List ℕ} {at k m : ℕ} {buffer : List ℕ} {next : ℕ} where
  pub digit_stored : Storing buffer₀ at k m buffer next → (n : ℕ) → m ≡ n / 10 → 1 ≤ n → {later : List ℕ} {after byte : ℕ} → byte ≡ DIGIT + n % 10
      → later ≡ set buffer next byte → after ≡ next + 1 → Storing buffer₀ at (k + 1) n later after
  digit_stored here n tenth some {byte = byte} b s e =
      let parts : stored n ≡ stored m ++ (DIGIT + n % 10) ∷ [] = rw tenth (next_stored n some) in
      record {
        stores = s ∙ rw (b, parts, here.stores, here.ends) (sym (stores_after buffer₀ at (stored m) ((DIGIT + n % 10) ∷ [])));
        ends = omega (arith, e, here.ends, ap length parts, length-append (stored m) ((DIGIT + n % 10) ∷ []));
        same = ap length s ∙ length-set buffer next byte ∙ here.same;
        most = omega (arith, e, here.most);
      }

  pub digit_lacks : Storing buffer₀ at k m buffer next → (n : ℕ) → m ≡ n → {later : List ℕ} {after : ℕ} → later ≡ buffer → after ≡ next
      → Storing buffer₀ at (k + 1) n later after
  digit_lacks here n none s e =
      record { stores = s ∙ rw (← none) here.stores; ends = e ∙ rw (← none) here.ends; same = ap length s ∙ here.same; most = omega (arith, e, here.most) }

  pub storing_ends : Storing buffer₀ at k m buffer next → 1 ≤ m → (next ≡ at + length (digits_of m)) × (buffer ≡ sets buffer₀ at (digits_of m))
  storing_ends here some = rw (← all_stored m some) (here.ends, here.stores)
