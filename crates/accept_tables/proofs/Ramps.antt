-- A mark for each ramp number tells what number 4 asks: whether it stands at a position already passed. Assumes nothing.
use Prim.Native.Nat.{ℕ, ◌+◌, ◌*◌, ◌/◌, ◌%◌, ◌<◌}
use mathlib.Core.Path.{◌≡◌, refl, sym, ap, ◌∙◌}
use mathlib.Core.Bool.{Bool, true, false, not, ◌&&◌, ◌||◌, and-true, and-false}
use mathlib.Core.List.{List, [], ◌∷◌}
use native.Mathlib.Numerals.{add-one}
use native.Mathlib.Omega.{arith}
use native.Mathlib.Decide.{ℕ_discrete}
use borrow.Author.Count.{below_more}
use borrow.Author.Tests.{eq-eqb, ne_eqb, not-true, not-false}
use lib.Dec.{eqb}
use lib.ListN.{length, replicate, length-replicate, length-set}
use Rattle.whole.specs.Search.{pick, every}
use Rattle.whole.proofs.Search.{Passes, first_is}
use Rattle.std.specs.Prelude.{Err}
use Rattle.refusals.specs.declared.Refusal.TheVariants.{RampAgain}
use Rattle.refusals.specs.Checks.{accepted, answer}
use Rattle.refusals.proofs.Answers.{stops, accepted_passes}
use Rattle.layout.specs.declared.Row.{Row}
use Rattle.layout.specs.Layout.{cells, row_at, ramp_positions, ramp_cell, ramp_at}
use Rattle.accept_tables.specs.Tables.{ramp_is_new, rows_in_range, ramps_once}
use Rattle.accept_ranges.proofs.Ranges.{InRange, in_range}
use Rattle.accept_tables.proofs.Marks.{up, with_mark, fresh_down, own_mark_up, other_marks_stay}

-- none of the first k positions along the road has the number a
abbrev absent : List ℕ → ℕ → ℕ → Bool
absent table k a = every k (λ j. not (eqb (ramp_at table j) a))

-- a mark is up exactly where its number stands at one of the first k positions
pub record Marked (table : List ℕ) (k : ℕ) (marks : List ℕ) : Type 0 where
  pub len : length marks ≡ 1_024
  pub each : (a : ℕ) → 0 < a → up marks a ≡ not (every k (λ j. not (eqb (ramp_at table j) a)))

pub marks_down : (table : List ℕ) → Marked table 0 (replicate 1_024 0)
marks_down table = record { len = length-replicate {A = ℕ} 1_024 0; each = λ a _. fresh_down 1_024 a }

-- the next position's number, as the code puts its mark up
pub mark_up : {table marks marks' : List ℕ} {k ramp : ℕ} → Marked table k marks → ramp ≡ ramp_at table k → ramp < 65_536 → marks' ≡ pick (eqb ramp 0) marks (with_mark marks ramp) → Marked table (k + 1) marks'
mark_up {table} {marks} {marks'} {k} {ramp} marked e h stored = by (ℕ_discrete ramp 0)
  where
    inside : ramp / 64 < length marks
    inside = omega (arith, marked.len)

    -- one more position: the number that stands there has its mark up, and no other's changes
    put : (a : ℕ) → 0 < a → Dec (a ≡ ramp) → up (with_mark marks ramp) a ≡ not (absent table k a && not (eqb ramp a))
    put a some (yes same) = rw (same, own_mark_up marks ramp inside, eq-eqb ramp ramp refl) (sym (ap not (and-false (absent table k ramp))))
    put a some (no other) =
        rw (other_marks_stay marks ramp inside a other, marked.each a some, ne_eqb ramp a (λ at. other (sym at)))
        (sym (ap not (and-true (absent table k a))))

    by : Dec (ramp ≡ 0) → Marked table (k + 1) marks'
    by (yes none) =
        rw (stored, eq-eqb ramp 0 none)
        (record {
          len = marked.len;
          each =
              λ a some. rw (add-one k) (rw (← e, marked.each a some, ne_eqb ramp a (omega arith)) (sym (ap not (and-true (absent table k a)))));
        })
    by (no some) =
        rw (stored, ne_eqb ramp 0 some)
        (record {
          len = length-set marks _ _ ∙ marked.len;
          each = λ a some. rw (add-one k) (rw (← e) (put a some (ℕ_discrete a ramp)));
        })

-- the code's test at position k is true exactly where number 4's fails
pub marks_tell : {table marks : List ℕ} {k ramp : ℕ} {r : Bool} → Marked table k marks → ramp ≡ ramp_at table k → r ≡ (not (eqb ramp 0) && up marks ramp) → not (ramp_is_new table k) ≡ r
marks_tell {table} {marks} {k} {ramp} marked e r = rw (r, ← e) (by (ℕ_discrete ramp 0))
  where
    by : Dec (ramp ≡ 0) → not (eqb ramp 0 || absent table k ramp) ≡ (not (eqb ramp 0) && up marks ramp)
    by (yes none) = rw (eq-eqb ramp 0 none)
    by (no some) = rw (ne_eqb ramp 0 some, marked.each ramp (omega (arith, some)))

-- the two positions of a cell
module _ (table : List ℕ) (i : ℕ) {row : Row} (e : row ≡ row_at table i) where
  pub on_ramp_at : row.on ≡ ramp_at table (2 * i)
  on_ramp_at = rw (e, eq-eqb (2 * i % 2) 0 (omega arith)) (ap (λ j. (row_at table j).on) (omega arith))

  pub off_ramp_at : row.off ≡ ramp_at table (2 * i + 1)
  off_ramp_at = rw (e, ne_eqb ((2 * i + 1) % 2) 0 (omega arith)) (ap (λ j. (row_at table j).off) (omega arith))

-- the ramp numbers at the first k positions are new, and their marks are up
pub record RampsPassed (table : List ℕ) (k : ℕ) (marks : List ℕ) : Type 0 where
  pub passed : Passes k (ramp_is_new table)
  pub marked : Marked table k marks

pub one_more : {table marks marks' : List ℕ} {k ramp : ℕ} {r : Bool} → RampsPassed table k marks → ramp ≡ ramp_at table k → ramp < 65_536
    → r ≡ (not (eqb ramp 0) && up marks ramp) → marks' ≡ pick (eqb ramp 0) marks (with_mark marks ramp) → r ≡ false → RampsPassed table (k + 1) marks'
one_more {table} {k = k} so e h r stored new =
    record {
      passed = below_more (λ k. ramp_is_new table k ≡ true) k so.passed (not-false _ (marks_tell so.marked e r ∙ new));
      marked = mark_up so.marked e h stored;
    }

-- the number at position k, that of cell i, stands there again
pub once_again : {table marks : List ℕ} {k i ramp : ℕ} {r : Bool} → RampsPassed table k marks → ramp ≡ ramp_at table k → r ≡ (not (eqb ramp 0) && up marks ramp) → r ≡ true
    → k < ramp_positions (cells table) → ramp_cell k ≡ i → Err (RampAgain (i + 1)) ≡ answer (ramps_once table ∷ [])
once_again {table} {k = k} so e r again h at =
    rw (← at)
    (stops (ramps_once table) accepted
    (first_is _ (ramp_is_new table) k (record { reaches = omega arith; before = so.passed; fails = λ _. not-true _ (marks_tell so.marked e r ∙ again) }))
    h)

-- in a table whose rows are in range, each ramp number has its mark
pub ramps_have_marks : (table : List ℕ) → accepted ≡ answer (rows_in_range table ∷ []) → (k : ℕ) → k < ramp_positions (cells table) → ramp_at table k < 65_536
ramps_have_marks table rows k h = by (eqb (k % 2) 0)
  where
    ranges : InRange (row_at table (k / 2))
    ranges = in_range (row_at table (k / 2)) ((accepted_passes (rows_in_range table) accepted (sym rows)).0 (k / 2) (omega arith))

    by : (even : Bool) → pick even (row_at table (k / 2)).on (row_at table (k / 2)).off < 65_536
    by true = omega (arith, ranges.on.most)
    by false = omega (arith, ranges.off.most)
