-- Rules, "Refusal numbers": what it is for a refusal to be of the lowest number that applies, at its smallest place.
use Rattle.std.specs.Prelude.{ℕ, ◌≤◌, ◌<◌, ◌≡◌, false, List, [], ◌∷◌, ◌⊎◌}
use Rattle.refusals.specs.declared.Refusal.{Refusal}
use Rattle.refusals.specs.Refusals.{number_of, place_of}
use Rattle.refusals.specs.Checks.{Check}

-- a check fails at a place, with a refusal
pub record FailsWith (check : Check) (refusal : Refusal) : Type 0 where
  pub place : ℕ
  pub inside : place < check.places
  pub fails : check.test place ≡ false
  pub gives : check.refusal place ≡ refusal

-- a refusal applies where one of the checks fails with it
abbrev pub Applies : List Check → Refusal → Type 0
Applies [] refusal = ⊥
Applies (check ∷ checks) refusal = FailsWith check refusal ⊎ Applies checks refusal

-- it applies, and none of a lower number does
pub record LowestNumber (checks : List Check) (refusal : Refusal) : Type 0 where
  pub applies : Applies checks refusal
  pub lowest : (other : Refusal) → Applies checks other → number_of refusal ≤ number_of other

-- and none of its number at a smaller place
pub record SmallestPlace (checks : List Check) (refusal : Refusal) : Type 0 where
  pub number : LowestNumber checks refusal
  pub smallest : (other : Refusal) → Applies checks other → number_of other ≡ number_of refusal → place_of refusal ≤ place_of other
