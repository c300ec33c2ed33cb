-- How the answer of a change goes from part to part. Assumes nothing.
use Rattle.std.specs.Prelude.{Err}
use Prim.Native.Nat.{ℕ}
use mathlib.Core.Path.{◌≡◌, sym, ap₂, ◌∙◌}
use mathlib.Core.Bool.{false, ◌&&◌}
use mathlib.Core.List.{List, [], ◌∷◌, ◌++◌}
use native.Mathlib.Omega.{arith}
use borrow.Author.Tests.{eq-eqb}
use Rattle.whole.proofs.Tests.{both_hold}
use Rattle.refusals.specs.declared.Refusal.{Refusal}
use Rattle.refusals.specs.declared.Refusal.TheVariants.{Length}
use Rattle.refusals.specs.Checks.{Answer, accepted, Check, answer}
use Rattle.refusals.proofs.Answers.{length_fails, length_fits_too, lengths_passed, refused_stays, accepted_goes_on, accepted_passes}
use Rattle.layout.specs.Layout.{cells}
use Rattle.layout.specs.Corridor.{Corridor}
use Rattle.accept_tables.specs.Tables.{table_length_fits, both_tables, both_tables_checks}
use Rattle.accept_rows.specs.Acceptance.{state_in_range, state_alone_checks}
use Rattle.recut_checks.specs.Pieces.{pieces_number}
use Rattle.recut_checks.specs.Change.{change_lists_fit, change_checks, with_pieces, ChangeDone}
use Rattle.recut_checks.proofs.Accepted.{ListsFit}

pub lists_refused : (old : Corridor) (counts : List ℕ) (many : ℕ) (new list : List ℕ) → change_lists_fit old counts many new list ≡ false
    → Err Length ≡ answer (change_checks old counts many new list)
lists_refused old counts many new list e =
    length_fails (both_tables old.table new ++ (state_in_range old ∷ [])) (table_length_fits old.table && table_length_fits new) e

module _ {old : Corridor} {counts : List ℕ} {many : ℕ} {new list : List ℕ} (lists : ListsFit old counts many new list) where
  checks_are : answer (both_tables_checks old.table new ++ (state_in_range old ∷ [])) ≡ answer (change_checks old counts many new list)
  checks_are =
      sym (length_fits_too (both_tables old.table new ++ (state_in_range old ∷ [])) (table_length_fits old.table && table_length_fits new) lists.fit)

  pub tables_refused : {refusal : Refusal} → Err refusal ≡ answer (both_tables_checks old.table new) → Err refusal ≡ answer (change_checks old counts many new list)
  tables_refused e = refused_stays (both_tables_checks old.table new) (state_in_range old ∷ []) e ∙ checks_are

  -- where the tables are accepted, the state decides
  pub state_decides : {a : Answer} → accepted ≡ answer (both_tables_checks old.table new) → a ≡ answer (state_alone_checks old) → a ≡ answer (change_checks old counts many new list)
  state_decides tables e =
      let table = (both_hold (table_length_fits old.table) (table_length_fits new) ((accepted_passes _ _ (sym tables)).0 0 (omega arith))).0 in
      let alone = lengths_passed (state_in_range old ∷ []) (ap₂ (λ a b. a && b) table (eq-eqb _ _ lists.state_len)) in
      accepted_goes_on (both_tables_checks old.table new) (state_in_range old ∷ []) tables (e ∙ alone) ∙ checks_are

-- what is asked of the pieces comes last: it decides where the change is accepted. n is the number of whole cells, as the code has it, and so are
-- the two tables by their sides
module _ (give : ℕ → Refusal) (old : Corridor) (pieces new list whole parts : List ℕ) {n : ℕ} (n-is : n ≡ cells whole) where
  pub change_refused : {refusal : Refusal} → Err refusal ≡ answer (change_checks old pieces n new list) → Err refusal ≡ answer (with_pieces give old pieces new list whole parts)
  change_refused e = refused_stays (change_checks old pieces (cells whole) new list) (pieces_number give whole pieces parts ∷ []) (e ∙ rw n-is)

  pub pieces_decide : {whole' parts' : List ℕ} {a : Answer} → whole' ≡ whole → parts' ≡ parts → accepted ≡ answer (change_checks old pieces n new list)
      → a ≡ answer (pieces_number give whole' pieces parts' ∷ [])
      → a ≡ answer (with_pieces give old pieces new list whole parts)
  pieces_decide w p e next =
      accepted_goes_on (change_checks old pieces (cells whole) new list) (pieces_number give whole pieces parts ∷ []) (e ∙ rw n-is) (next ∙ rw (w, p))

-- how a change ends
module _ {checks : List Check} {made list : List ℕ} where
  pub ends_refused : {refusal : Refusal} → Err refusal ≡ answer checks → ChangeDone checks made list (Err refusal) list
  ends_refused e = record { answered = e; leaves = rw (← e) }

  pub ends_accepted : {left : List ℕ} → accepted ≡ answer checks → left ≡ made → ChangeDone checks made list accepted left
  ends_accepted e is = record { answered = e; leaves = rw (← e) is }
