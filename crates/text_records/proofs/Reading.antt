-- The loops that read, byte after byte: what is left to read from here on settles what is read in all. Assumes nothing.
use Prim.Native.Nat.{ℕ, ◌+◌, ◌≤◌, ◌<◌}
use mathlib.Core.Path.{◌≡◌, refl, sym, ◌∙◌}
use mathlib.Core.Bool.{Bool, true, false}
use mathlib.Core.List.{List, [], ◌∷◌}
use native.Mathlib.Numerals.{add-one}
use native.Mathlib.Omega.{arith}
use lib.ListN.{length, get_or, drop, set, length-set, drop_of_length-le}
use lib.Seq.{sets}
use Rattle.text_digits.proofs.Stores.{rest_of}
use Rattle.text_digits.specs.Lines.{CR}
use Rattle.text_scans.specs.Scans.{begin, at_start, feed, untouched, ended, completed}
use Rattle.text_records.specs.Reads.{broken_at, read_from, read_on, row_from, row_on, row_at_end, text_at_end, text_from, text_on, numbers_from, numbers_on, held, numbers}
use Rattle.std.specs.Prelude.{Option, Some, None}
use Rattle.text_scans.specs.declared.LastField.{LastField}
use Rattle.text_scans.specs.declared.Scan.{Scan}
use Rattle.text_scans.specs.declared.Scan.TheVariants.{Start, Number, Return}
use Rattle.text_scans.specs.declared.Step.{Step}
use Rattle.text_scans.specs.declared.Step.TheVariants.{More, Field, Complete, Breaks}
use Rattle.text_scans.specs.declared.End.{End}
use Rattle.text_scans.specs.declared.End.TheVariants.{Nothing}
use Rattle.text_records.specs.declared.Read.TheVariants.{Record, Part, Broken}

-- a step is what the byte at an index does
abbrev pub Does : List ℕ → ℕ → Scan → ℕ → Step → Type 0
Does bytes at scan fields step = step ≡ feed scan (get_or bytes at 0) fields

true≢false : ◌≡◌ {A = Bool} true false → ⊥
true≢false e = let z : ◌≡◌ {A = ℕ} 0 1 = cc in omega arith

-- the text's end is no part of a record where none has begun
none_begun : (scan : Scan) (fields : ℕ) → untouched scan ≡ true → ended scan fields ≡ Nothing
unfolding ended feed at_start
none_begun (Start field bytes) fields e = rw e
none_begun (Number field bytes value) fields e = absurd (true≢false (sym e))
none_begun Return fields e = absurd (true≢false (sym e))

begun : (scan : Scan) (fields : ℕ) → (ended scan fields ≡ Nothing → ⊥) → untouched scan ≡ false
begun scan fields some = by (untouched scan) refl
  where
    by : (b : Bool) → untouched scan ≡ b → b ≡ false
    by true e = absurd (some (none_begun scan fields e))
    by false e = refl

-- the text's end completes a last field, which goes to its index, or to the next place of a list
abbrev pub with_last : Option LastField → List ℕ → List ℕ
with_last (Some last) row = set row last.field last.number
with_last None row = row

pub row_with_last : (fields : ℕ) (scan : Scan) (row : List ℕ) → row_at_end fields scan row ≡ with_last (completed (feed scan CR fields)) row
unfolding row_at_end row_from
row_with_last fields scan row = by (feed scan CR fields)
  where
    by : (step : Step) → row_from step (λ next now. now) row ≡ with_last (completed step) row
    by (More next) = refl
    by (Field field number next) = refl
    by Complete = refl
    by Breaks = refl

abbrev pub last_number : Option LastField → List ℕ
last_number (Some last) = last.number ∷ []
last_number None = []

pub numbers_with_last : (fields : ℕ) (scan : Scan) → numbers_on fields scan [] ≡ last_number (completed (feed scan CR fields))
unfolding numbers_on numbers_from
numbers_with_last fields scan = by (feed scan CR fields)
  where
    by : (step : Step) → numbers_from step (λ next. []) [] ≡ last_number (completed step)
    by (More next) = refl
    by (Field field number next) = refl
    by Complete = refl
    by Breaks = refl

-- One record.

pub record OneRecord (chunk : List ℕ) (from : ℕ) (scan₀ : Scan) (row₀ : List ℕ) (at : ℕ) (scan : Scan) (row : List ℕ) : Type 0 where
  pub answer : read_on (length row₀) at scan (drop at chunk) ≡ read_on (length row₀) from scan₀ (drop from chunk)
  pub stores : row_on (length row₀) scan row (drop at chunk) ≡ row_on (length row₀) scan₀ row₀ (drop from chunk)
  pub same : length row ≡ length row₀

pub opens : (chunk : List ℕ) (from : ℕ) (scan : Scan) (row : List ℕ) → OneRecord chunk from scan row from scan row
opens chunk from scan row = record { answer = refl; stores = refl; same = refl }

module _ {chunk : List ℕ} {from : ℕ} {scan₀ : Scan} {row₀ : List ℕ} {at : ℕ} {scan : Scan} {row : List ℕ} where
  one_byte : OneRecord chunk from scan₀ row₀ at scan row → at < length chunk → (step : Step) → Does chunk at scan (length row) step
      → (read_from step (λ next. read_on (length row₀) (at + 1) next (drop (at + 1) chunk)) (at + 1) ≡ read_on (length row₀) from scan₀ (drop from chunk))
      × (row_from step (λ next now. row_on (length row₀) next now (drop (at + 1) chunk)) row ≡ row_on (length row₀) scan₀ row₀ (drop from chunk))
  unfolding read_on row_on
  one_byte here h step e =
      let does : step ≡ feed scan (get_or chunk at 0) (length row₀) = rw here.same at e in
      (rw (rest_of chunk at h, ← does) at here.answer, rw (rest_of chunk at h, ← does) at here.stores)

  pub goes_on : {next : Scan} → OneRecord chunk from scan₀ row₀ at scan row → at < length chunk → Does chunk at scan (length row) (More next)
      → OneRecord chunk from scan₀ row₀ (at + 1) next row
  unfolding read_from row_from
  goes_on here h e =
      let by = one_byte here h _ e in
      record { answer = by.0; stores = by.1; same = here.same }

  pub stores_a_field : {next : Scan} {field number : ℕ} {later : List ℕ} → OneRecord chunk from scan₀ row₀ at scan row → at < length chunk → Does chunk at scan (length row) (Field field number next) → later ≡ set row field number → OneRecord chunk from scan₀ row₀ (at + 1) next later
  unfolding read_from row_from
  stores_a_field {field = field} {number = number} here h e put =
      let by = one_byte here h _ e in
      rw put (record { answer = by.0; stores = by.1; same = length-set row field number ∙ here.same })

  pub completes : OneRecord chunk from scan₀ row₀ at scan row → at < length chunk → Does chunk at scan (length row) Complete
      → (Record (at + 1) ≡ read_on (length row₀) from scan₀ (drop from chunk)) × (row ≡ row_on (length row₀) scan₀ row₀ (drop from chunk))
  unfolding read_from row_from
  completes here h e = one_byte here h _ e

  pub breaks : OneRecord chunk from scan₀ row₀ at scan row → at < length chunk → Does chunk at scan (length row) Breaks
      → (Broken ≡ read_on (length row₀) from scan₀ (drop from chunk)) × (row ≡ row_on (length row₀) scan₀ row₀ (drop from chunk))
  unfolding read_from row_from
  breaks here h e = one_byte here h _ e

  pub used_up : OneRecord chunk from scan₀ row₀ at scan row → length chunk ≤ at
      → (Part scan ≡ read_on (length row₀) from scan₀ (drop from chunk)) × (row ≡ row_on (length row₀) scan₀ row₀ (drop from chunk))
  unfolding read_on row_on
  used_up here h =
      let none : drop at chunk ≡ [] = drop_of_length-le chunk h in
      (rw none at here.answer, rw none at here.stores)

-- A whole text, checked: with so many records complete before index i.

pub record Checking (fields : ℕ) (text : List ℕ) (scan : Scan) (records i : ℕ) : Type 0 where
  pub answer : text_on fields records scan (drop i text) ≡ held fields text
  pub fewer : records ≤ i

pub checks : (fields : ℕ) (text : List ℕ) {scan : Scan} → scan ≡ begin → Checking fields text scan 0 0
unfolding held
checks fields text e = rw e (record { answer = refl; fewer = omega arith })

module _ {fields : ℕ} {text : List ℕ} {scan : Scan} {records i : ℕ} where
  check_byte : Checking fields text scan records i → i < length text → (step : Step) → Does text i scan fields step
      → text_from step (λ next. text_on fields records next (drop (i + 1) text)) (text_on fields (records + 1) begin (drop (i + 1) text)) records ≡ held fields text
  unfolding text_on
  check_byte here h step e = rw (rest_of text i h, ← e) at here.answer

  pub check_more : {next : Scan} → Checking fields text scan records i → i < length text → Does text i scan fields (More next)
      → Checking fields text next records (i + 1)
  unfolding text_from
  check_more here h e =
      record { answer = check_byte here h _ e; fewer = omega (arith, here.fewer) }

  pub check_field : {next : Scan} {field number : ℕ} → Checking fields text scan records i → i < length text → Does text i scan fields (Field field number next) → Checking fields text next records (i + 1)
  unfolding text_from
  check_field here h e =
      record { answer = check_byte here h _ e; fewer = omega (arith, here.fewer) }

  pub check_record : {first : Scan} → Checking fields text scan records i → i < length text → Does text i scan fields Complete → first ≡ begin
      → Checking fields text first (records + 1) (i + 1)
  unfolding text_from
  check_record here h e at_start_lem =
      rw at_start_lem
      (record {
        answer = check_byte here h _ e;
        fewer = omega (arith, here.fewer);
      })

  pub check_breaks : Checking fields text scan records i → i < length text → Does text i scan fields Breaks
      → broken_at (records + 1) ≡ held fields text
  unfolding text_from
  check_breaks here h e = check_byte here h _ e

  pub check_ends : {end : End} → Checking fields text scan records i → length text ≤ i → end ≡ ended scan fields → text_at_end end records ≡ held fields text
  unfolding text_on
  check_ends here h e =
      let none : drop i text ≡ [] = drop_of_length-le text h in
      rw e (rw none at here.answer)

-- How far the check has come, for `check_last`: the index is within the text, and a record that has begun has a byte before it.

pub record Reaching (text : List ℕ) (scan : Scan) (records i : ℕ) : Type 0 where
  pub inside : untouched scan ≡ false → records < i
  pub reaches : i ≤ length text

pub reach_start : {text : List ℕ} {scan : Scan} {records i : ℕ} → scan ≡ begin → i ≤ length text → Reaching text scan records i
reach_start e h = rw e (record { inside = λ (never : true ≡ false). absurd (true≢false never); reaches = h })

pub reach_more : {text : List ℕ} {next : Scan} {records i : ℕ} → records ≤ i → i < length text → Reaching text next records (i + 1)
reach_more fewer h = record { inside = λ _. omega (arith, fewer); reaches = omega arith }

-- a record that the text's end completes or breaks has a byte of its own, so its number is at most the text's length
pub check_last : (fields : ℕ) {text : List ℕ} {scan : Scan} {records i : ℕ} {end : End} → Reaching text scan records i → end ≡ ended scan fields → (end ≡ Nothing → ⊥) → records < length text
check_last fields {scan = scan} here e some = omega (arith, here.inside (begun scan fields λ none. some (e ∙ none)), here.reaches)

-- A whole text, stored: with the numbers before this place in the list already.

pub record Storing (fields : ℕ) (text list₀ : List ℕ) (scan : Scan) (place i : ℕ) (list : List ℕ) : Type 0 where
  pub stores : sets list place (numbers_on fields scan (drop i text)) ≡ sets list₀ 0 (numbers fields text)
  pub fewer : place ≤ i

pub stores_from : (fields : ℕ) (text list : List ℕ) {scan : Scan} → scan ≡ begin → Storing fields text list scan 0 0 list
unfolding numbers
stores_from fields text list e = rw e (record { stores = refl; fewer = omega arith })

module _ {fields : ℕ} {text list₀ : List ℕ} {scan : Scan} {place i : ℕ} {list : List ℕ} where
  store_byte : Storing fields text list₀ scan place i list → i < length text → (step : Step) → Does text i scan fields step
      → sets list place (numbers_from step (λ next. numbers_on fields next (drop (i + 1) text)) (numbers_on fields begin (drop (i + 1) text))) ≡ sets list₀ 0 (numbers fields text)
  unfolding numbers_on
  store_byte here h step e = rw (rest_of text i h, ← e) at here.stores

  pub store_more : {next : Scan} → Storing fields text list₀ scan place i list → i < length text → Does text i scan fields (More next)
      → Storing fields text list₀ next place (i + 1) list
  unfolding numbers_from
  store_more here h e =
      record { stores = store_byte here h _ e; fewer = omega (arith, here.fewer) }

  pub store_field : {next : Scan} {field number : ℕ} {later : List ℕ} → Storing fields text list₀ scan place i list → i < length text → Does text i scan fields (Field field number next) → later ≡ set list place number → Storing fields text list₀ next (place + 1) (i + 1) later
  unfolding numbers_from
  store_field {number = number} here h e put =
      rw put
      (record {
        stores = rw add-one (store_byte here h _ e);
        fewer = omega (arith, here.fewer);
      })

  pub store_record : {first : Scan} → Storing fields text list₀ scan place i list → i < length text → Does text i scan fields Complete → first ≡ begin
      → Storing fields text list₀ first place (i + 1) list
  unfolding numbers_from
  store_record here h e at_start_lem =
      rw at_start_lem
      (record { stores = store_byte here h _ e; fewer = omega (arith, here.fewer) })

  pub store_breaks : Storing fields text list₀ scan place i list → i < length text → Does text i scan fields Breaks
      → list ≡ sets list₀ 0 (numbers fields text)
  unfolding numbers_from
  store_breaks here h e = store_byte here h _ e
