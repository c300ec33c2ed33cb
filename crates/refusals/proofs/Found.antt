-- A check whose places are searched by an iterator's `find` for the first that fails. Assumes nothing.
use Prim.Native.Nat.{ℕ, ◌≤◌, ◌<◌, zero-le}
use mathlib.Core.Path.{◌≡◌, refl, sym}
use mathlib.Core.Bool.{Bool, true, false, not}
use mathlib.Core.List.{List, [], ◌∷◌}
use native.Mathlib.Omega.{arith}
use borrow.Author.Tests.{not-true, not-false}
use denote.Ref.{Bor}
use denote.Param.Members.{Mut}
use Rattle.std.specs.Prelude.{Option, None, Some, MatchOption, Err}
use Rattle.std.specs.Bool.{⊤}
use Rattle.std.specs.Fn.{CalledAt}
use Rattle.std.specs.Iterator.{YieldsThen}
use Rattle.std.specs.List.{FoldsTo}
use Rattle.std.specs.declared.ops.Range.{Range}
use Rattle.std.proofs.iter.Yields.{nat_range_steps}
use Rattle.std.proofs.lemmas.Iterator.{first_from_Range}
use Rattle.whole.specs.Search.{first_failing}
use Rattle.whole.proofs.Search.{first_is, none_fails}
use Rattle.refusals.specs.Checks.{accepted, Check, answer}
use Rattle.refusals.proofs.Answers.{stops, passes}

-- what `find` over the indices below so many gives, asked for one that fails: the least
pub record FirstFailing (places : ℕ) (test : ℕ → Bool) (r : Option ℕ) : Type 0 where
  pub is : MatchOption r (places ≤ first_failing places test) (λ i. (i ≡ first_failing places test) × (i < places))

-- its closure f, called at an index, says what the test does not, and stays as it is
pub found_first : {F : Type 0} {g : Mut F (Bor ℕ × Unit {0}) Bool} {f : F} {n places : ℕ} {test : ℕ → Bool} {r : Option ℕ} (u : Range ℕ) → n ≡ places
    → (xs : List ℕ) × (j : F) × YieldsThen nat_range_steps (record { start = 0; end = n }) xs r u × FoldsTo (λ p x q. CalledAt g p x false q) f xs j × MatchOption r ⊤ (λ x. (h : F) × CalledAt g j x true h)
    → ((x : ℕ) (b : Bool) (q : F) → CalledAt g f x b q → (q ≡ f) × (b ≡ not (test x)))
    → FirstFailing places test r
found_first {n = n} {test = test} {r = r} u e ran tells =
    rw (← e)
    (record {
      is =
          by r
          (first_from_Range _ u _ r (λ x. test x ≡ false) (λ x. test x ≡ true) ran (λ x q k. not-true _ (sym (tells x true q k).1)) (λ x q k. ((tells x false q k).0, not-false _ (sym (tells x false q k).1))));
    })
  where
    by : (r : Option ℕ) → MatchOption r ((k : ℕ) → 0 ≤ k → k < n → test k ≡ true) (λ i. (0 ≤ i) × (i < n) × (test i ≡ false) × ((k : ℕ) → 0 ≤ k → k < i → test k ≡ true))
        → MatchOption r (n ≤ first_failing n test) (λ i. (i ≡ first_failing n test) × (i < n))
    by None all = omega (arith, none_fails n test (λ k h. all k zero-le h))
    by (Some i) first = (first_is n test i (record { reaches = omega arith; before = λ k. first.3 k zero-le; fails = λ _. first.2 }), first.1)

-- the answer of a check by itself, whose places were gone over so
pub first_refused : (check : Check) {at : ℕ} → FirstFailing check.places check.test (Some at) → Err (check.refusal at) ≡ answer (check ∷ [])
first_refused check found = stops check accepted found.is.0 found.is.1

pub none_refused : (check : Check) → FirstFailing check.places check.test None → accepted ≡ answer (check ∷ [])
none_refused check all = passes check refl all.is refl
