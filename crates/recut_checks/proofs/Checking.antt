-- The whole cells as a loop asks them for their pieces, one after the other, once the counts are known to sum. Assumes nothing.
use Prim.Native.Nat.{ℕ, suc, ◌+◌, ◌≤◌, ◌<◌}
use mathlib.Core.Path.{◌≡◌, refl, sym, ap, ◌∙◌}
use mathlib.Core.Bool.{Bool, true, false}
use mathlib.Core.List.{List, [], ◌∷◌}
use native.Mathlib.Numerals.{add-one}
use native.Mathlib.Omega.{arith}
use borrow.Author.Count.{below_more}
use borrow.Author.Tests.{eqb-true}
use lib.Dec.{eqb}
use Rattle.std.specs.Prelude.{Err}
use Rattle.whole.proofs.Search.{Passes}
use Rattle.whole.proofs.Sums.{sum_grows, sum_more}
use Rattle.refusals.specs.declared.Refusal.{Refusal}
use Rattle.refusals.specs.Checks.{accepted, answer}
use Rattle.refusals.proofs.Answers.{check_fails, check_passes}
use Rattle.layout.specs.Layout.{cells}
use Rattle.recut_checks.specs.Pieces.{piece_count, first_piece, cell_has_pieces, pieces_hold, pieces_number}

module _ (whole pieces parts : List ℕ) where
  -- the cells before the one of index i have their pieces, and the piece of index first comes next
  pub record Checking (first i : ℕ) : Type 0 where
    pub passed : Passes (i + 1) (pieces_hold whole pieces parts)
    pub first_is : first ≡ first_piece pieces i

  -- n cells and all pieces, as the code has them
  pub begins : {n all : ℕ} {r : Bool} → n ≡ cells whole → all ≡ cells parts → r ≡ eqb (first_piece pieces n) all → r ≡ true → Checking 0 0
  begins n all e holds = record { passed = λ k h. first k (omega arith); first_is = refl }
    where
      first : (k : ℕ) → k ≡ 0 → pieces_hold whole pieces parts k ≡ true
      first k at = ap (pieces_hold whole pieces parts) at ∙ rw (← n, ← all) (sym e ∙ holds)

  module _ {first i : ℕ} (so : Checking first i) (h : i < cells whole) where
    -- the pieces of a cell are cells of the table of pieces
    pub inside : first + piece_count pieces i ≤ cells parts
    inside =
        let all : first_piece pieces (cells whole) ≡ cells parts = eqb-true _ _ (so.passed 0 (omega arith)) in
        omega (arith, so.first_is, sum_grows (suc i) (cells whole) (piece_count pieces) h)

    here : pieces_hold whole pieces parts (i + 1) ≡ cell_has_pieces whole pieces parts i
    here = rw add-one refl

    pub goes_on : {count : ℕ} {r : Bool} → r ≡ cell_has_pieces whole pieces parts i → r ≡ true → count ≡ piece_count pieces i → Checking (first + count) (i + 1)
    goes_on e holds count =
        record { passed = below_more _ _ so.passed (here ∙ sym e ∙ holds); first_is = sum_more i (piece_count pieces) so.first_is count }

  -- the refusal at place 0, at that of a cell, or none
  module _ (give : ℕ → Refusal) where
    pub sum_fails : {n all : ℕ} {r : Bool} → n ≡ cells whole → all ≡ cells parts → r ≡ eqb (first_piece pieces n) all → r ≡ false
        → Err (give 0) ≡ answer (pieces_number give whole pieces parts ∷ [])
    sum_fails n all e fails =
        check_fails (pieces_number give whole pieces parts) (omega arith) (λ k h. absurd (omega arith)) (rw (← n, ← all) (sym e ∙ fails))

    pub cell_fails : {first i : ℕ} {r : Bool} → Checking first i → i < cells whole → r ≡ cell_has_pieces whole pieces parts i → r ≡ false → Err (give (i + 1)) ≡ answer (pieces_number give whole pieces parts ∷ [])
    cell_fails so h e fails = check_fails (pieces_number give whole pieces parts) (omega arith) so.passed (here so h ∙ sym e ∙ fails)

    pub ends : {first i : ℕ} → Checking first i → cells whole ≤ i → accepted ≡ answer (pieces_number give whole pieces parts ∷ [])
    ends so h = check_passes (pieces_number give whole pieces parts) (λ k below. so.passed k (omega arith))
