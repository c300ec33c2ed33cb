-- The least index that fails a test is determined: the test fails there, and at none before; or it fails at none. Assumes nothing.
use Prim.Native.Nat.{ℕ, zero, suc, ◌+◌, ◌≤◌, ◌<◌, zero-le, suc-le-suc}
use mathlib.Core.Path.{◌≡◌, refl, ap, ap₂, sym, ◌∙◌}
use mathlib.Core.Bool.{Bool, true, false, not, ◌&&◌, and-false, and-true, and_assoc, false≢true}
use native.Mathlib.Nat.{le_of_suc-le-suc, not-suc-le-zero}
use native.Mathlib.Omega.{arith}
use native.Mathlib.Decide.{ℕ_discrete}
use borrow.Author.Count.{below_more}
use borrow.Author.Tests.{not-true, not-false}
use mathlib.Core.List.{List}
use denote.Ref.{Bor}
use denote.Param.Members.{Mut}
use Rattle.std.specs.Prelude.{Option, None, Some, MatchOption}
use Rattle.std.specs.Bool.{⊤}
use Rattle.std.specs.Fn.{Called, CalledAt}
use Rattle.std.specs.Iterator.{YieldsThen}
use Rattle.std.specs.List.{FoldsTo, range_with_len, list_all}
use Rattle.std.specs.declared.ops.Range.{Range}
use Rattle.std.proofs.iter.Yields.{nat_range_steps}
use Rattle.std.proofs.lemmas.Iterator.{YieldsList-from_range, first_from_Range}
use Rattle.std.proofs.lemmas.Iterator.Search.{all_from_yields_List}
use Rattle.whole.specs.Search.{pick, every, first_failing}

-- each index below n passes
abbrev pub Passes : ℕ → (ℕ → Bool) → Type 0
Passes n test = (k : ℕ) → k < n → test k ≡ true

pub record IsFirst (n : ℕ) (test : ℕ → Bool) (i : ℕ) : Type 0 where
  pub reaches : i ≤ n
  pub before : Passes i test
  pub fails : i < n → test i ≡ false

after : {test : ℕ → Bool} {n : ℕ} → Passes (suc n) test → Passes n (λ k. test (suc k))
after all k h = all (suc k) (suc-le-suc h)

-- there is no other such index
pub first_is : (n : ℕ) (test : ℕ → Bool) (i : ℕ) → IsFirst n test i → i ≡ first_failing n test
first_is zero test i first = omega (arith, first.reaches)
first_is (suc n) test zero first = rw (first.fails (suc-le-suc zero-le))
first_is (suc n) test (suc i) first =
    rw (first.before zero (suc-le-suc zero-le))
    (ap suc
    (first_is n (λ k. test (suc k)) i
    (record {
      reaches = le_of_suc-le-suc first.reaches;
      before = after first.before;
      fails = λ h. first.fails (suc-le-suc h);
    })))

-- it fails there, and none before it does; or none does at all
pub is_first : (n : ℕ) (test : ℕ → Bool) → IsFirst n test (first_failing n test)
is_first zero test = record { reaches = zero-le; before = λ k h. absurd (not-suc-le-zero h); fails = λ h. absurd (not-suc-le-zero h) }
is_first (suc n) test = by (test zero) refl (is_first n (λ k. test (suc k)))
  where
    by : (b : Bool) → test zero ≡ b → IsFirst n (λ k. test (suc k)) (first_failing n (λ k. test (suc k))) → IsFirst (suc n) test (pick b (suc (first_failing n (λ k. test (suc k)))) zero)
    by true e rest = record { reaches = suc-le-suc rest.reaches; before = passed; fails = λ h. rest.fails (le_of_suc-le-suc h) }
      where
        passed : Passes (suc (first_failing n (λ k. test (suc k)))) test
        passed zero h = e
        passed (suc k) h = rest.before k (le_of_suc-le-suc h)
    by false e rest = record { reaches = zero-le; before = λ k h. absurd (not-suc-le-zero h); fails = λ h. e }

pub all_pass : (n : ℕ) (test : ℕ → Bool) {at : ℕ} → at ≡ first_failing n test → n ≤ at → Passes n test
all_pass n test e reaches k h = (is_first n test).before k (omega arith)

pub none_fails : (n : ℕ) (test : ℕ → Bool) → Passes n test → first_failing n test ≡ n
none_fails n test all = sym (first_is n test n (record { reaches = omega arith; before = all; fails = λ h. absurd (omega arith) }))

-- The same for a loop over the indices below n, in turn, that leaves at the first whose result r is false: where it stands at i.

pub record Searching (places : ℕ) (test : ℕ → Bool) (n i : ℕ) : Type 0 where
  pub whole : n ≡ places
  pub reaches : i ≤ n
  pub passed : Passes i test

pub begins : {places n : ℕ} (test : ℕ → Bool) → n ≡ places → Searching places test n 0
begins test e = record { whole = e; reaches = zero-le; passed = λ k h. absurd (not-suc-le-zero h) }

pub goes_on : {places n i : ℕ} {test : ℕ → Bool} {r : Bool} → Searching places test n i → i < n → r ≡ test i → not r ≡ false → Searching places test n (i + 1)
goes_on {i = i} {test = test} at h e passes =
    record { whole = at.whole; reaches = omega arith; passed = below_more (λ k. test k ≡ true) i at.passed (sym e ∙ not-false _ passes) }

pub found : {places n i : ℕ} {test : ℕ → Bool} {r : Bool} → Searching places test n i → i < n → r ≡ test i → not r ≡ true → i ≡ first_failing places test
found {places} {i = i} {test} at h e fails =
    first_is places test i (record { reaches = omega arith; before = at.passed; fails = λ _. sym e ∙ not-true _ fails })

pub not_found : {places n i : ℕ} {test : ℕ → Bool} → Searching places test n i → n ≤ i → n ≡ first_failing places test
not_found {places} {test = test} at ends = at.whole ∙ sym (none_fails places test λ k h. at.passed k (omega arith))

-- `every` says the same of all indices at once

pub every_passes : (n : ℕ) (test : ℕ → Bool) → Passes n test → every n test ≡ true
every_passes zero test all = refl
every_passes (suc n) test all = ap₂ (λ a b. a && b) (every_passes n test (λ k h. all k (omega arith))) (all n (omega arith))

pub every_fails : (n : ℕ) (test : ℕ → Bool) (k : ℕ) → k < n → test k ≡ false → every n test ≡ false
every_fails zero test k h e = absurd (not-suc-le-zero h)
every_fails (suc n) test k h e = by (ℕ_discrete k n) λ below. every_fails n test k below e
  where
    by : Dec (k ≡ n) → (k < n → every n test ≡ false) → (every n test && test n) ≡ false
    by (yes same) shorter = ap (λ b. every n test && b) (ap test (sym same) ∙ e) ∙ and-false (every n test)
    by (no other) shorter = ap (λ b. b && test n) (shorter (omega (arith, other)))

pub passes_every : (n : ℕ) (test : ℕ → Bool) → every n test ≡ true → Passes n test
passes_every n test e k h = by (test k) refl
  where
    by : (b : Bool) → test k ≡ b → test k ≡ true
    by true at = at
    by false at = absurd (false≢true (sym (every_fails n test k h at) ∙ e))

-- What `all` over the indices below n answers, where its closure f, called at an index, says what the test says and stays as it is: what
-- `every` says

every_from : (n : ℕ) (test : ℕ → Bool) → every (suc n) test ≡ (test zero && every n (λ k. test (suc k)))
every_from zero test = sym (and-true (test zero))
every_from (suc n) test = ap (λ b. b && test (suc n)) (every_from n test) ∙ and_assoc (test zero) (every n (λ k. test (suc k))) (test (suc n))

every_listed : (a n : ℕ) (test : ℕ → Bool) → list_all test (range_with_len a n) ≡ every n (λ k. test (a + k))
every_listed a zero test = refl
every_listed a (suc n) test =
    ap (λ b. test a && b) (every_listed (a + 1) n test) ∙ (λ i. test (first i) && every n (λ k. test (next k i))) ∙ sym (every_from n (λ k. test (a + k)))
  where
    first : a ≡ a + zero
    first = omega arith

    next : (k : ℕ) → a + 1 + k ≡ a + suc k
    next k = omega arith

pub all_every : {F : Type 0} {g : Mut F (ℕ × Unit {0}) Bool} {f : F} {n places : ℕ} (test : ℕ → Bool) {r : Bool} (u : Range ℕ) → n ≡ places
    → (xs : List ℕ) × (o : Option ℕ) × (j : F) × YieldsThen nat_range_steps (record { start = 0; end = n }) xs o u × FoldsTo (λ p x q. Called g p (x, tt) true q) f xs j × MatchOption o (r ≡ true) (λ x. (r ≡ false) × ((h : F) × Called g j (x, tt) false h))
    → ((x : ℕ) (b : Bool) (q : F) → Called g f (x, tt) b q → (q ≡ f) × (b ≡ test x))
    → r ≡ every places test
all_every {n = n} test u e ran tells =
    rw (← e) (all_from_yields_List test u _ _ ran (YieldsList-from_range 0 n n refl (omega arith)) tells ∙ every_listed 0 n test ∙ (λ i. every n (λ k. test (same k i))))
  where
    same : (k : ℕ) → 0 + k ≡ k
    same k = omega arith
