-- Cited by private contracts and proofs alone: no public promise rests on this file.
-- Fields read at once: reading on from one place of a chunk comes to what reading on from a later place comes to.
use Rattle.std.specs.Prelude.{ℕ, ◌+◌, ◌-◌, ◌≤◌, ◌<◌, ◌≡◌, List, length, drop, set, Option, Some, None}
use Rattle.text_scans.specs.Scans.{LONGEST}
use Rattle.text_records.specs.Reads.{read_on, row_on}
use Rattle.text_scans.specs.declared.Scan.{Scan}
use Rattle.text_scans.specs.declared.Scan.TheVariants.{Start, Number}
use Rattle.text_records.specs.declared.Digits.{Digits}
use Rattle.text_records.specs.declared.Place.{Place}

-- from an index, a scan and a row to a later index, scan and row
pub record Comes (chunk : List ℕ) (fields at : ℕ) (scan : Scan) (row : List ℕ) (to : ℕ) (next : Scan) (later : List ℕ) : Type 0 where
  pub finds : read_on fields at scan (drop at chunk) ≡ read_on fields to next (drop to chunk)
  pub stores : row_on fields scan row (drop at chunk) ≡ row_on fields next later (drop to chunk)

-- the digits after those that make `first`, in any field of a record that is not too long by then
pub record DigitsRead (chunk : List ℕ) (from stop first : ℕ) (r : Digits) : Type 0 where
  pub starts : from ≤ r.next
  pub ends : r.next ≤ stop
  pub reads : (fields field bytes : ℕ) (row : List ℕ) → bytes + (r.next - from) ≤ LONGEST
      → Comes chunk fields from (Number field bytes first) row r.next (Number field (bytes + (r.next - from)) r.value) row

-- the rest of a field that is not the record's last, up to its comma and with it
pub record FieldRead (chunk : List ℕ) (from stop : ℕ) (begun : ℕ → ℕ → Scan) (number next : ℕ) : Type 0 where
  pub further : from < next
  pub ends : next ≤ stop
  pub reads : (fields field bytes : ℕ) (row : List ℕ) → field + 1 < fields → bytes + (next - from) ≤ LONGEST
      → Comes chunk fields from (begun field bytes) row next (Start (field + 1) (bytes + (next - from))) (set row field number)

abbrev pub AfterFirst : List ℕ → ℕ → ℕ → ℕ → Option Digits → Type 0
AfterFirst chunk from stop first (Some whole) = FieldRead chunk from stop (λ field bytes. Number field bytes first) whole.value whole.next
AfterFirst chunk from stop first None = Unit {0}

abbrev pub FromStart : List ℕ → ℕ → ℕ → Option Digits → Type 0
FromStart chunk from stop (Some whole) = FieldRead chunk from stop (λ field bytes. Start field bytes) whole.value whole.next
FromStart chunk from stop None = Unit {0}

-- fields one after the other, in a record that has room for the bytes before `stop`
pub record FieldsRead (chunk : List ℕ) (from stop field : ℕ) (row later : List ℕ) (r : Place) : Type 0 where
  pub starts : from ≤ r.at
  pub ends : r.at ≤ stop
  pub reads : (bytes : ℕ) → bytes + (stop - from) ≤ LONGEST
      → Comes chunk (length row) from (Start field bytes) row r.at (Start r.field (bytes + (r.at - from))) later
