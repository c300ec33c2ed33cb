-- Rules, "The text and the program": a record, and a whole text, read byte after byte.
use Rattle.std.specs.Prelude.{ℕ, ◌+◌, ◌*◌, List, [], ◌∷◌, leb, eqb, set, Result, Ok, Err}
use Rattle.std.proofs.lemmas.List.Edits.{sets}
use Rattle.whole.specs.Search.{pick}
use Rattle.refusals.specs.declared.Refusal.{Refusal}
use Rattle.refusals.specs.declared.Refusal.TheVariants.{Length}
use Rattle.refusals.specs.Refusals.{place_of}
use Rattle.text_digits.specs.Lines.{CR}
use Rattle.text_scans.specs.Scans.{begin, feed, ended}
use Rattle.text_scans.specs.declared.Scan.{Scan}
use Rattle.text_scans.specs.declared.Step.{Step}
use Rattle.text_scans.specs.declared.Step.TheVariants.{More, Field, Complete, Breaks}
use Rattle.text_scans.specs.declared.End.{End}
use Rattle.text_scans.specs.declared.End.TheVariants.{Nothing, Last, Cut}
use Rattle.text_records.specs.declared.Read.{Read}
use Rattle.text_records.specs.declared.Read.TheVariants.{Record, Part, Broken}

-- One record, from where its reading stands; the bytes start at index `at` of their chunk. Reading stops after the record's
-- end, and where the record breaks.

unfoldable pub read_from : Step → (Scan → Read) → ℕ → Read
read_from (More next) on after = on next
read_from (Field field number next) on after = on next
read_from Complete on after = Record after
read_from Breaks on after = Broken

unfoldable pub read_on : ℕ → ℕ → Scan → List ℕ → Read
read_on fields at scan [] = Part scan
read_on fields at scan (byte ∷ rest) =
    read_from (feed scan byte fields) (λ next. read_on fields (at + 1) next rest) (at + 1)

-- what the record's row holds then: each number goes to its field's index
unfoldable pub row_from : Step → (Scan → List ℕ → List ℕ) → List ℕ → List ℕ
row_from (More next) on row = on next row
row_from (Field field number next) on row = on next (set row field number)
row_from Complete on row = row
row_from Breaks on row = row

unfoldable pub row_on : ℕ → Scan → List ℕ → List ℕ → List ℕ
row_on fields scan row [] = row
row_on fields scan row (byte ∷ rest) = row_from (feed scan byte fields) (λ next now. row_on fields next now rest) row

-- what the row holds when the text ends
unfoldable pub row_at_end : ℕ → Scan → List ℕ → List ℕ
row_at_end fields scan row = row_from (feed scan CR fields) (λ next now. now) row

-- what a whole text is found to be: so many records, or a refusal
abbrev pub Text : Type 0
Text = Result ℕ Refusal

-- 12, at the first record that breaks a rule, counted from 1
abbrev pub broken_at : ℕ → Text
broken_at place = Err (Refusal.Record place)

-- A whole text of records of so many fields each, with n records complete before these bytes.

abbrev pub text_at_end : End → ℕ → Text
text_at_end Nothing n = Ok n
text_at_end Last n = Ok (n + 1)
text_at_end Cut n = broken_at (n + 1)

unfoldable pub text_from : Step → (Scan → Text) → Text → ℕ → Text
text_from (More next) on another n = on next
text_from (Field field number next) on another n = on next
text_from Complete on another n = another
text_from Breaks on another n = broken_at (n + 1)

unfoldable pub text_on : ℕ → ℕ → Scan → List ℕ → Text
text_on fields n scan [] = text_at_end (ended scan fields) n
text_on fields n scan (byte ∷ rest) =
    text_from (feed scan byte fields) (λ next. text_on fields n next rest) (text_on fields (n + 1) begin rest) n

-- the numbers of its fields, in order
unfoldable pub numbers_from : Step → (Scan → List ℕ) → List ℕ → List ℕ
numbers_from (More next) on another = on next
numbers_from (Field field number next) on another = number ∷ on next
numbers_from Complete on another = another
numbers_from Breaks on another = []

unfoldable pub numbers_on : ℕ → Scan → List ℕ → List ℕ
numbers_on fields scan [] = numbers_from (feed scan CR fields) (λ next. []) []
numbers_on fields scan (byte ∷ rest) =
    numbers_from (feed scan byte fields) (λ next. numbers_on fields next rest) (numbers_on fields begin rest)

-- how many records a text holds, or the first that breaks, counted from 1
unfoldable pub held : ℕ → List ℕ → Text
held fields text = text_on fields 0 begin text

unfoldable pub numbers : ℕ → List ℕ → List ℕ
numbers fields text = numbers_on fields begin text

-- Read into a list with room for so many numbers: 1 where they don't fit. A refusal leaves the list as it came.

unfoldable pub fit : ℕ → ℕ → Text → Text
fit fields room (Ok n) = pick (leb (n * fields) room) (Ok n) (Err Length)
fit fields room (Err refusal) = Err refusal

abbrev pub after_reading : Text → List ℕ → List ℕ → List ℕ
after_reading (Ok n) list into = sets into 0 list
after_reading (Err refusal) list into = into

-- A text of exactly one record: a missing one breaks as record 1, and anything after it as record 2.

unfoldable pub one : Text → Text
one (Ok n) = pick (eqb n 0) (broken_at 1) (pick (eqb n 1) (Ok n) (broken_at 2))
one (Err refusal) = pick (leb (place_of refusal) 1) (broken_at 1) (broken_at 2)
