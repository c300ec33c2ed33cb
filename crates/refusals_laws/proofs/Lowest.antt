-- The answer of checks whose numbers ascend, each with places that ascend, is of the lowest number that applies; where no number comes twice it is
-- at its smallest place. Once, over lists of checks. Assumes nothing.
use Rattle.std.specs.Prelude.{Err}
use Prim.Native.Nat.{ℕ, suc, ◌≤◌, ◌<◌}
use mathlib.Core.Path.{◌≡◌, refl, sym, ap, ◌∙◌}
use mathlib.Core.Bool.{Bool, true, false, false≢true}
use mathlib.Core.List.{List, [], ◌∷◌}
use mathlib.Core.Logic.{inl, inr}
use native.Mathlib.Omega.{arith}
use borrow.Author.Tests.{ltb-true, ltb-false}
use lib.Dec.{ltb}
use Rattle.whole.specs.Search.{pick}
use Rattle.whole.proofs.Search.{is_first}
use Rattle.refusals.specs.declared.Refusal.{Refusal}
use Rattle.refusals.specs.Refusals.{number_of, place_of}
use Rattle.refusals.specs.Checks.{Answer, Check, least, or_later, answer}
use Rattle.refusals.proofs.Answers.{refused_is_not_accepted}
use Rattle.refusals_laws.specs.Lowest.{FailsWith, Applies, LowestNumber, SmallestPlace}

-- a check's places give one number, and ascend
pub record Numbered (number : ℕ) (check : Check) : Type 0 where
  pub numbered : (p : ℕ) → number_of (check.refusal p) ≡ number
  pub ascends : (p q : ℕ) → p ≤ q → place_of (check.refusal p) ≤ place_of (check.refusal q)

-- checks of these numbers, none below the one before it
abbrev pub Ascending : ℕ → List ℕ → List Check → Type 0
Ascending from numbers [] = Unit
Ascending from [] (check ∷ checks) = ⊥
Ascending from (number ∷ numbers) (check ∷ checks) = (from ≤ number) × (Numbered number check × Ascending number numbers checks)

number_is : {number : ℕ} {check : Check} {refusal : Refusal} → Numbered number check → FailsWith check refusal → number_of refusal ≡ number
number_is so fails = ap number_of (sym fails.gives) ∙ so.numbered fails.place

-- what applies later is of no lower number
not_below : (from : ℕ) (numbers : List ℕ) (checks : List Check) (refusal : Refusal) → Ascending from numbers checks → Applies checks refusal → from ≤ number_of refusal
not_below from numbers [] refusal so applies = absurd applies
not_below from [] (check ∷ checks) refusal so applies = absurd so
not_below from (number ∷ numbers) (check ∷ checks) refusal so (inl here) = omega (arith, so.0, number_is so.1.0 here)
not_below from (number ∷ numbers) (check ∷ checks) refusal so (inr later) = omega (arith, so.0, not_below number numbers checks refusal so.1.1 later)

-- the least failing place of a check, where there is one
module _ (check : Check) (inside : least check < check.places) where
  stops_here : FailsWith check (check.refusal (least check))
  stops_here = record { place = least check; inside = inside; fails = (is_first check.places check.test).fails inside; gives = refl }

  not_before : {refusal : Refusal} (other : FailsWith check refusal) → least check ≤ other.place
  not_before other = by (ltb other.place (least check)) refl
    where
      by : (before : Bool) → ltb other.place (least check) ≡ before → least check ≤ other.place
      by true e = absurd (false≢true (sym other.fails ∙ (is_first check.places check.test).before other.place (ltb-true _ _ e)))
      by false e = ltb-false _ _ e

none_here : (check : Check) {refusal : Refusal} → check.places ≤ least check → FailsWith check refusal → ⊥
none_here check passed other =
    false≢true (sym other.fails ∙ (is_first check.places check.test).before other.place (omega (arith, other.inside)))

refusal_is : {a b : Refusal} → ◌≡◌ {A = Answer} (Err a) (Err b) → a ≡ b
refusal_is e = cc

-- from the checks after one to that one with them
module _ (check : Check) (checks : List Check) where
  -- it fails: its least failing place is the answer
  here_lowest : (number : ℕ) (numbers : List ℕ) → Numbered number check → Ascending number numbers checks → least check < check.places → LowestNumber (check ∷ checks) (check.refusal (least check))
  here_lowest number numbers own later inside = record { applies = inl (stops_here check inside); lowest = lowest }
    where
      lowest : (other : Refusal) → Applies (check ∷ checks) other → number_of (check.refusal (least check)) ≤ number_of other
      lowest other (inl here) = omega (arith, own.numbered (least check), number_is own here)
      lowest other (inr after) = omega (arith, own.numbered (least check), not_below number numbers checks other later after)

  -- it passes: what is lowest after it is lowest with it
  later_lowest : {refusal : Refusal} → check.places ≤ least check → LowestNumber checks refusal → LowestNumber (check ∷ checks) refusal
  later_lowest {refusal} passed rest = record { applies = inr rest.applies; lowest = lowest }
    where
      lowest : (other : Refusal) → Applies (check ∷ checks) other → number_of refusal ≤ number_of other
      lowest other (inl here) = absurd (none_here check passed here)
      lowest other (inr after) = rest.lowest other after

  -- the same of the place, where no later check has the number
  here_smallest : (number : ℕ) (numbers : List ℕ) → Numbered number check → Ascending (suc number) numbers checks → least check < check.places → LowestNumber (check ∷ checks) (check.refusal (least check)) → SmallestPlace (check ∷ checks) (check.refusal (least check))
  here_smallest number numbers own later inside lowest = record { number = lowest; smallest = smallest }
    where
      smallest : (other : Refusal) → Applies (check ∷ checks) other → number_of other ≡ number_of (check.refusal (least check)) → place_of (check.refusal (least check)) ≤ place_of other
      smallest other (inl here) same = rw (sym here.gives) (own.ascends (least check) here.place (not_before check inside here))
      smallest other (inr after) same =
          absurd (omega (arith, same, own.numbered (least check), not_below (suc number) numbers checks other later after))

  later_smallest : {refusal : Refusal} → check.places ≤ least check → SmallestPlace checks refusal → SmallestPlace (check ∷ checks) refusal
  later_smallest {refusal} passed rest = record { number = later_lowest passed rest.number; smallest = smallest }
    where
      smallest : (other : Refusal) → Applies (check ∷ checks) other → number_of other ≡ number_of refusal → place_of refusal ≤ place_of other
      smallest other (inl here) same = absurd (none_here check passed here)
      smallest other (inr after) same = rest.smallest other after same

  -- by whether it fails
  by_the_check : {refusal : Refusal} (Claim : Refusal → Type 0) → answer (check ∷ checks) ≡ Err refusal → (least check < check.places → Claim (check.refusal (least check))) → (check.places ≤ least check → answer checks ≡ Err refusal → Claim refusal) → Claim refusal
  unfolding or_later
  by_the_check {refusal} Claim e here later = by (ltb (least check) check.places) refl e
    where
      by : (fails : Bool) → ltb (least check) check.places ≡ fails → pick fails (Err (check.refusal (least check))) (answer checks) ≡ Err refusal → Claim refusal
      by true h is = let same : check.refusal (least check) ≡ refusal = refusal_is is in rw same at (here (ltb-true _ _ h))
      by false h is = later (ltb-false _ _ h) is

pub lowest_number : (from : ℕ) (numbers : List ℕ) (checks : List Check) {refusal : Refusal} → Ascending from numbers checks → answer checks ≡ Err refusal → LowestNumber checks refusal
lowest_number from numbers [] {refusal} so e = absurd (refused_is_not_accepted refusal (sym e))
lowest_number from [] (check ∷ checks) so e = absurd so
lowest_number from (number ∷ numbers) (check ∷ checks) so e =
    by_the_check check checks (LowestNumber (check ∷ checks)) e (here_lowest check checks number numbers so.1.0 so.1.1)
    (λ passed is. later_lowest check checks passed (lowest_number number numbers checks so.1.1 is))

-- checks of these numbers, each above the one before it
abbrev pub Rising : ℕ → List ℕ → List Check → Type 0
Rising from numbers [] = Unit
Rising from [] (check ∷ checks) = ⊥
Rising from (number ∷ numbers) (check ∷ checks) = (from ≤ number) × (Numbered number check × Rising (suc number) numbers checks)

pub rises : (from : ℕ) (numbers : List ℕ) (checks : List Check) → Rising from numbers checks → Ascending from numbers checks
rises from numbers [] so = tt
rises from [] (check ∷ checks) so = absurd so
rises from (number ∷ numbers) (check ∷ checks) so = (so.0, (so.1.0, lower number numbers checks (rises (suc number) numbers checks so.1.1)))
  where
    lower : (from : ℕ) (numbers : List ℕ) (checks : List Check) → Ascending (suc from) numbers checks → Ascending from numbers checks
    lower from numbers [] so = tt
    lower from [] (check ∷ checks) so = absurd so
    lower from (number ∷ numbers) (check ∷ checks) so = (omega (arith, so.0), so.1)

pub smallest_place : (from : ℕ) (numbers : List ℕ) (checks : List Check) {refusal : Refusal} → Rising from numbers checks → answer checks ≡ Err refusal → SmallestPlace checks refusal
smallest_place from numbers [] {refusal} so e = absurd (refused_is_not_accepted refusal (sym e))
smallest_place from [] (check ∷ checks) so e = absurd so
smallest_place from (number ∷ numbers) (check ∷ checks) so e =
    let later = rises (suc number) numbers checks so.1.1 in
    let all = rises from (number ∷ numbers) (check ∷ checks) so in
    by_the_check check checks (SmallestPlace (check ∷ checks)) e
    (λ inside. here_smallest check checks number numbers so.1.0 later inside (here_lowest check checks number numbers so.1.0 all.1.1 inside))
    (λ passed is. later_smallest check checks passed (smallest_place (suc number) numbers checks so.1.1 is))
