-- Rules, "Refusal numbers": the lowest number that applies is given, at its smallest place.
use Rattle.std.specs.Prelude.{ℕ, Bool, List, [], ◌∷◌, ltb, Result, Ok, Err}
use Rattle.whole.specs.Search.{pick, first_failing}
use Rattle.refusals.specs.declared.Refusal.{Refusal}
use Rattle.refusals.specs.declared.Refusal.TheVariants.{Length}

-- what a call answers that has nothing else to say: accepted, or the Err of a refusal
abbrev pub Answer : Type 0
Answer = Result Unit Refusal

abbrev pub accepted : Answer
accepted = Ok tt

-- a check: how many places it looks at, its test at each of them, counted from 0, and the refusal that a failing one gives
pub record Check : Type 0 where
  pub places : ℕ
  pub test : ℕ → Bool
  pub refusal : ℕ → Refusal

abbrev pub least : Check → ℕ
least check = first_failing check.places check.test

-- 1: the lengths of lists, a check of one place
abbrev pub lengths : Bool → Check
lengths fit = record { places = 1; test = λ _. fit; refusal = λ _. Length }

-- the refusal of a check at its least failing place, or the later answer where it fails at none
unfoldable pub or_later : Check → Answer → Answer
or_later check later = pick (ltb (least check) check.places) (Err (check.refusal (least check))) later

-- the checks in their order
abbrev pub answer : List Check → Answer
answer [] = accepted
answer (check ∷ checks) = or_later check (answer checks)

-- a list's later contents: the new ones where the answer is accepted, else those it came with
abbrev pub when_accepted {ℓ} : {A : Type ℓ} → Answer → A → A → A
when_accepted (Ok done) new old = new
when_accepted (Err refusal) new old = old
