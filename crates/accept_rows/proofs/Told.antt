-- How an answer goes from the lists whose lengths were looked at to those that were lent. Assumes nothing.
use Prim.Native.Nat.{ℕ}
use mathlib.Core.Path.{◌≡◌, refl, sym, ap, ap₂, ◌∙◌}
use mathlib.Core.Bool.{Bool, true, false}
use mathlib.Core.List.{List, ◌∷◌}
use Rattle.std.proofs.Common.{subst}
use Rattle.std.specs.Prelude.{Err}
use Rattle.refusals.specs.declared.Refusal.{Refusal}
use Rattle.refusals.specs.declared.Refusal.TheVariants.{Length}
use Rattle.refusals.specs.Checks.{Answer, Check, answer, lengths}
use Rattle.refusals.proofs.Answers.{lengths_fail, lengths_passed}
use Rattle.layout.specs.Corridor.{Corridor, corridor_of}
use Rattle.accept_tables.specs.Tables.{table_length_fits, table_numbers}
use Rattle.accept_rows.specs.Acceptance.{state_lengths_fit, row_lengths_fit}
use Rattle.accept_rows.proofs.Lengths.{table_length_lem}

-- number 1, before any other checks
pub lengths_refused : (checks : List Check) {fit : Bool} {refusal : Refusal} → (refusal ≡ Length) × (fit ≡ false) → Err refusal ≡ answer (lengths fit ∷ checks)
lengths_refused checks told = ap Err told.0 ∙ lengths_fail (answer checks) {r = false} (sym told.1) refl

-- where the lengths fit, a table's own answer is that of numbers 2 to 4
pub table_told : (c : Corridor) → state_lengths_fit c ≡ true → {a : Answer} → a ≡ answer (lengths (table_length_fits c.table) ∷ table_numbers c.table) → a ≡ answer (table_numbers c.table)
table_told c fit e = e ∙ lengths_passed (table_numbers c.table) (table_length_lem c fit)

-- the same lists under other names
module _ {table state table' state' : List ℕ} (same : (table' ≡ table) × (state' ≡ state)) where
  seen : corridor_of table' state' ≡ corridor_of table state
  seen = ap₂ corridor_of same.0 same.1

  pub checked : (numbers : Corridor → List Check) {a : Answer} → state_lengths_fit (corridor_of table' state') ≡ true → a ≡ answer (numbers (corridor_of table' state'))
      → a ≡ answer (lengths (state_lengths_fit (corridor_of table state)) ∷ numbers (corridor_of table state))
  checked numbers {a} fit e =
      let P : Corridor → Type 0 = λ c. a ≡ answer (lengths (state_lengths_fit c) ∷ numbers c) in
      subst P seen (e ∙ sym (lengths_passed (numbers (corridor_of table' state')) fit))

module _ {table state row table' state' row' : List ℕ} (same : (table' ≡ table) × (state' ≡ state) × (row' ≡ row)) where
  pub checked_row : (numbers : Corridor → List ℕ → List Check) {a : Answer} → row_lengths_fit (corridor_of table' state') row' ≡ true
      → a ≡ answer (numbers (corridor_of table' state') row')
      → a ≡ answer (lengths (row_lengths_fit (corridor_of table state) row) ∷ numbers (corridor_of table state) row)
  checked_row numbers {a} fit e =
      let P : List ℕ → Type 0 = λ r. a ≡ answer (lengths (row_lengths_fit (corridor_of table state) r) ∷ numbers (corridor_of table state) r) in
      let Q : Corridor → Type 0 = λ c. a ≡ answer (lengths (row_lengths_fit c row') ∷ numbers c row') in
      subst P same.2 (subst Q (ap₂ corridor_of same.0 same.1) (e ∙ sym (lengths_passed (numbers (corridor_of table' state') row') fit)))
