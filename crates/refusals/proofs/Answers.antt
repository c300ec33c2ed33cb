-- How an answer goes from check to check. Assumes nothing.
use Prim.Native.Nat.{ℕ, ◌≤◌, ◌<◌}
use mathlib.Core.Path.{◌≡◌, refl, sym, ap, ◌∙◌}
use mathlib.Core.Bool.{Bool, true, false, not, ◌&&◌, and-true, and-false}
use mathlib.Core.List.{List, [], ◌∷◌, ◌++◌}
use native.Mathlib.Omega.{arith}
use borrow.Author.Tests.{lt-ltb, le-ltb, ltb-false, not-true, not-false}
use lib.Dec.{ltb}
use Rattle.whole.specs.Search.{pick}
use Rattle.whole.proofs.Search.{Passes, first_is, all_pass, none_fails}
use Rattle.refusals.specs.declared.Refusal.{Refusal}
use Rattle.refusals.specs.declared.Refusal.TheVariants.{Length}
use Rattle.std.specs.Prelude.{Ok, Err}
use Rattle.std.specs.Result.{IsErr, IsErrAnd}
use Rattle.std.proofs.lemmas.Result.{err_from_is_err_and}
use Rattle.refusals.specs.Checks.{Answer, accepted, Check, least, or_later, answer, lengths}

pub refused_is_not_accepted : (refusal : Refusal) → Err refusal ≡ accepted → ⊥
refused_is_not_accepted refusal e = let z : ◌≡◌ {A = ℕ} 0 1 = cc in omega arith

-- a check that fails at a place is the answer
pub stops : (check : Check) (later : Answer) {at : ℕ} → at ≡ least check → at < check.places → Err (check.refusal at) ≡ or_later check later
unfolding or_later
stops check later e h = rw (lt-ltb (least check) check.places (rw e at h)) (ap (λ p. Err (check.refusal p)) e)

-- a check that fails nowhere leaves the answer to the later ones
pub passes : (check : Check) {a later : Answer} {at : ℕ} → at ≡ least check → check.places ≤ at → a ≡ later → a ≡ or_later check later
unfolding or_later
passes check e h next = rw (le-ltb (least check) check.places (rw e at h)) next

-- the same from the answer of one check by itself
pub one_stops : (check : Check) (later : Answer) {refusal : Refusal} → Err refusal ≡ answer (check ∷ []) → Err refusal ≡ or_later check later
unfolding or_later
one_stops check later {refusal} = by (ltb (least check) check.places)
  where
    by : (fails : Bool) → Err refusal ≡ pick fails (Err (check.refusal (least check))) accepted → Err refusal ≡ pick fails (Err (check.refusal (least check))) later
    by true e = e
    by false e = absurd (refused_is_not_accepted refusal e)

pub one_passes : (check : Check) {a later : Answer} → accepted ≡ answer (check ∷ []) → a ≡ later → a ≡ or_later check later
unfolding or_later
one_passes check {a} {later} e next = by (ltb (least check) check.places) e
  where
    by : (fails : Bool) → accepted ≡ pick fails (Err (check.refusal (least check))) accepted → a ≡ pick fails (Err (check.refusal (least check))) later
    by true e = absurd (refused_is_not_accepted (check.refusal (least check)) (sym e))
    by false e = next

-- what a `?` returns is the refusal that the call before it gave
pub handed_on : {a b : Answer} {refusal : Refusal} → IsErr a × IsErrAnd a (λ e. e ≡ refusal) → Err refusal ≡ b → a ≡ b
handed_on {a} told e = let left = err_from_is_err_and a told.1 in left.1 ∙ ap Err left.2 ∙ e

-- r tells whether the lengths fit
pub lengths_fail : (later : Answer) {fit r : Bool} → r ≡ fit → not r ≡ true → Err Length ≡ or_later (lengths fit) later
unfolding or_later
lengths_fail later e h = rw (sym e ∙ not-true _ h)

pub lengths_fit_lem : {a later : Answer} {fit r : Bool} → r ≡ fit → not r ≡ false → a ≡ later → a ≡ or_later (lengths fit) later
unfolding or_later
lengths_fit_lem e h next = rw (sym e ∙ not-false _ h) next

-- what answers the checks in their order, each by a call and a `?`
pub ruleset in_their_order = (handed_on, one_stops, one_passes, lengths_fail, lengths_fit_lem)

-- one more length to fit: where it does, the others decide, and where it does not, number 1 is given
pub length_fits_too : (checks : List Check) (others : Bool) {more : Bool} → more ≡ true → answer (lengths (others && more) ∷ checks) ≡ answer (lengths others ∷ checks)
length_fits_too checks others e =
    ap (λ fit. answer (lengths fit ∷ checks)) (ap (λ b. others && b) e ∙ and-true others)

pub length_fails : (checks : List Check) (others : Bool) {more : Bool} → more ≡ false → Err Length ≡ answer (lengths (others && more) ∷ checks)
length_fails checks others e = lengths_fail _ {r = false} (sym (ap (λ b. others && b) e ∙ and-false others)) refl

-- the answer, or the next one where there is no refusal
abbrev or_else : Answer → Answer → Answer
or_else (Ok done) next = next
or_else (Err refusal) next = Err refusal

in_turn : (first later : List Check) → answer (first ++ later) ≡ or_else (answer first) (answer later)
unfolding or_later
in_turn [] later = refl
in_turn (check ∷ first) later = rw (in_turn first later) (by (ltb (least check) check.places) (answer first))
  where
    by : (fails : Bool) (rest : Answer) → pick fails (Err (check.refusal (least check))) (or_else rest (answer later)) ≡ or_else (pick fails (Err (check.refusal (least check))) rest) (answer later)
    by true rest = refl
    by false rest = refl

-- more checks change nothing of a refusal, and where there is none they are the answer
pub refused_stays : (first later : List Check) {refusal : Refusal} → Err refusal ≡ answer first → Err refusal ≡ answer (first ++ later)
refused_stays first later e = rw (in_turn first later, ← e)

pub accepted_goes_on : (first later : List Check) {a : Answer} → accepted ≡ answer first → a ≡ answer later → a ≡ answer (first ++ later)
accepted_goes_on first later e next = rw (in_turn first later, ← e) next

none_fails_reaches : (check : Check) → Passes check.places check.test → check.places ≤ least check
none_fails_reaches check all = omega (arith, none_fails check.places check.test all)

-- What acceptance says of each check, and what says it.

pub accepted_passes : (check : Check) (later : Answer) → or_later check later ≡ accepted → Passes check.places check.test × (later ≡ accepted)
unfolding or_later
accepted_passes check later e = by (ltb (least check) check.places) refl e
  where
    by : (fails : Bool) → ltb (least check) check.places ≡ fails → pick fails (Err (check.refusal (least check))) later ≡ accepted → Passes check.places check.test × (later ≡ accepted)
    by true h e = absurd (refused_is_not_accepted (check.refusal (least check)) e)
    by false h e = (all_pass check.places check.test refl (ltb-false (least check) check.places h), e)

pub passes_accepted : (check : Check) (later : Answer) → Passes check.places check.test → later ≡ accepted → or_later check later ≡ accepted
passes_accepted check later all e = sym (passes check refl (none_fails_reaches check all) (sym e))

pub accepted_both : (first later : List Check) → answer (first ++ later) ≡ accepted → (answer first ≡ accepted) × (answer later ≡ accepted)
accepted_both first later e = by (answer first) (sym (in_turn first later) ∙ e)
  where
    by : (a : Answer) → or_else a (answer later) ≡ accepted → (a ≡ accepted) × (answer later ≡ accepted)
    by (Ok done) e = (refl, e)
    by (Err refusal) e = absurd (refused_is_not_accepted refusal e)

pub both_accepted : (first later : List Check) → answer first ≡ accepted → answer later ≡ accepted → answer (first ++ later) ≡ accepted
both_accepted first later e f = sym (accepted_goes_on first later (sym e) (sym f))

-- lengths that fit leave the answer to the checks after them
pub lengths_passed : (checks : List Check) {fit : Bool} → fit ≡ true → answer (lengths fit ∷ checks) ≡ answer checks
lengths_passed checks e = sym (lengths_fit_lem {r = true} (sym e) refl refl)

-- The same of a loop over a check's places, in turn, that leaves at the first that fails: what stops it, and what it ends with.

pub check_fails : (check : Check) {at : ℕ} → at < check.places → Passes at check.test → check.test at ≡ false → Err (check.refusal at) ≡ answer (check ∷ [])
check_fails check {at} h before fails =
    stops check accepted (first_is check.places check.test at (record { reaches = omega arith; before = before; fails = λ _. fails })) h

pub check_passes : (check : Check) → Passes check.places check.test → accepted ≡ answer (check ∷ [])
check_passes check all = passes check refl (none_fails_reaches check all) refl
