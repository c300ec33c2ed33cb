-- Reading on from one place comes to what reading on from a later one comes to: step by step, and one after the other. Assumes nothing.
use Prim.Native.Nat.{ℕ, ◌+◌, ◌-◌, ◌*◌, ◌≤◌, ◌<◌}
use mathlib.Core.Path.{◌≡◌, refl, sym, ◌∙◌}
use mathlib.Core.Bool.{Bool, true}
use mathlib.Core.List.{List}
use native.Mathlib.Omega.{arith}
use borrow.Author.Tests.{lt-ltb, le-leb, ne_eqb, leb-true}
use lib.Dec.{leb}
use lib.ListN.{length, get_or, drop, set}
use Rattle.text_digits.proofs.Stores.{rest_of}
use Rattle.text_digits.specs.Lines.{COMMA, DIGIT}
use Rattle.whole.proofs.Tests.{both_hold}
use Rattle.text_scans.specs.Scans.{LONGEST, is_digit, at_start, longer, in_number, feed}
use Rattle.text_records.specs.Reads.{read_from, read_on, row_from, row_on}
use Rattle.text_records.specs.Private.{Comes, DigitsRead, FieldRead, AfterFirst, FromStart}
use Rattle.text_records.specs.declared.Digits.{Digits}
use Rattle.std.specs.Prelude.{Option, Some, None}
use Rattle.text_scans.specs.declared.Scan.{Scan}
use Rattle.text_scans.specs.declared.Scan.TheVariants.{Start, Number}
use Rattle.text_scans.specs.declared.Step.{Step}
use Rattle.text_scans.specs.declared.Step.TheVariants.{More, Field}

-- a comma after a field that is not the last
pub feeds_comma : (fields f y v : ℕ) → f + 1 < fields → y < LONGEST → feed (Number f y v) COMMA fields ≡ Field f v (Start (f + 1) (y + 1))
unfolding feed in_number
feeds_comma fields f y v more room = rw (lt-ltb (f + 1) fields more, lt-ltb y 16384 room)

pub stays : (chunk : List ℕ) (fields at : ℕ) (scan : Scan) (row : List ℕ) → Comes chunk fields at scan row at scan row
stays chunk fields at scan row = record { finds = refl; stores = refl }

module _ {chunk : List ℕ} {fields at : ℕ} {scan : Scan} {row : List ℕ} {to : ℕ} {next : Scan} {later : List ℕ} where
  pub then : {after : ℕ} {last : Scan} {end : List ℕ} → Comes chunk fields at scan row to next later → Comes chunk fields to next later after last end
      → Comes chunk fields at scan row after last end
  then first second = record { finds = first.finds ∙ second.finds; stores = first.stores ∙ second.stores }

module _ (chunk : List ℕ) (fields at : ℕ) (scan : Scan) (row : List ℕ) (h : at < length chunk) where
  one_byte : (step : Step) → feed scan (get_or chunk at 0) fields ≡ step
      → (read_on fields at scan (drop at chunk) ≡ read_from step (λ next. read_on fields (at + 1) next (drop (at + 1) chunk)) (at + 1))
      × (row_on fields scan row (drop at chunk) ≡ row_from step (λ next now. row_on fields next now (drop (at + 1) chunk)) row)
  unfolding read_on row_on
  one_byte step e = (rw (rest_of chunk at h, e), rw (rest_of chunk at h, e))

  pub byte_more : (next : Scan) → feed scan (get_or chunk at 0) fields ≡ More next → Comes chunk fields at scan row (at + 1) next row
  unfolding read_from row_from
  byte_more next e = let by = one_byte (More next) e in record { finds = by.0; stores = by.1 }

  pub byte_field : (field number : ℕ) (next : Scan) → feed scan (get_or chunk at 0) fields ≡ Field field number next → Comes chunk fields at scan row (at + 1) next (set row field number)
  unfolding read_from row_from
  byte_field field number next e = let by = one_byte (Field field number next) e in record { finds = by.0; stores = by.1 }

-- the first digit of a field, a digit after others, and the comma after them
module _ (chunk : List ℕ) (at field bytes : ℕ) (h : at < length chunk) (room : bytes < LONGEST) where
  pub first_digit_read : (fields : ℕ) (row : List ℕ) → DIGIT ≤ get_or chunk at 0 → get_or chunk at 0 ≤ DIGIT + 9
      → Comes chunk fields at (Start field bytes) row (at + 1) (Number field (bytes + 1) (get_or chunk at 0 - DIGIT)) row
  unfolding feed at_start
  first_digit_read fields row low high =
      byte_more chunk fields at (Start field bytes) row h (Number field (bytes + 1) (get_or chunk at 0 - DIGIT))
      (rw (le-leb 48 (get_or chunk at 0) low, le-leb (get_or chunk at 0) 57 high, lt-ltb bytes 16384 room))

  pub next_digit_read : (fields value : ℕ) (row : List ℕ) → DIGIT ≤ get_or chunk at 0 → get_or chunk at 0 ≤ DIGIT + 9 → 0 < value → value < 400000000
      → Comes chunk fields at (Number field bytes value) row (at + 1) (Number field (bytes + 1) (value * 10 + (get_or chunk at 0 - DIGIT))) row
  unfolding feed in_number longer
  next_digit_read fields value row low high some few =
      byte_more chunk fields at (Number field bytes value) row h (Number field (bytes + 1) (value * 10 + (get_or chunk at 0 - DIGIT)))
      (rw
      (le-leb 48 (get_or chunk at 0) low, le-leb (get_or chunk at 0) 57 high, ne_eqb value 0 (λ e. omega (arith, e)), le-leb (value * 10 + (get_or chunk at 0 - 48)) 4294967295 (omega arith), lt-ltb bytes 16384 room))

  pub comma_read : (fields value : ℕ) (row : List ℕ) → get_or chunk at 0 ≡ COMMA → field + 1 < fields
      → Comes chunk fields at (Number field bytes value) row (at + 1) (Start (field + 1) (bytes + 1)) (set row field value)
  comma_read fields value row is more =
      byte_field chunk fields at (Number field bytes value) row h field value (Start (field + 1) (bytes + 1))
      (rw is (feeds_comma fields field bytes value more room))

-- a byte whose test for a digit held
pub is_digit_lem : (byte : ℕ) {r : Bool} → r ≡ is_digit byte → r ≡ true → (DIGIT ≤ byte) × (byte ≤ DIGIT + 9)
is_digit_lem byte e h =
    let parts = both_hold (leb 48 byte) (leb byte 57) (sym e ∙ h) in
    (leb-true 48 byte parts.0, leb-true byte 57 parts.1)

-- Digits after the first, one after the other.

pub one_digit_more : {chunk : List ℕ} {from stop first next value : ℕ} → DigitsRead chunk from stop first (record { next = next; value = value }) → next < stop → stop ≤ length chunk
    → (DIGIT ≤ get_or chunk next 0) × (get_or chunk next 0 ≤ DIGIT + 9) → 0 < value → value < 400000000
    → DigitsRead chunk from stop first (record { next = next + 1; value = value * 10 + (get_or chunk next 0 - DIGIT) })
one_digit_more {chunk} {from} {stop} {first} {next} {value} before h within digit some few =
    record {
      starts = omega (arith, before.starts);
      ends = omega arith;
      reads = λ fields field bytes row short.
          let one : bytes + (next + 1 - from) ≡ bytes + (next - from) + 1 = omega (arith, before.starts) in
          rw one
          (then (before.reads fields field bytes row (omega (arith, before.starts)))
          (next_digit_read chunk next field (bytes + (next - from)) (omega arith) (omega (arith, before.starts)) fields value row digit.0 digit.1 some few));
    }

-- A field up to its comma: from a digit that is not its first, from its only digit, and from the first of several.

pub comma_after : {chunk : List ℕ} {from stop first : ℕ} {r : Digits} → DigitsRead chunk from stop first r → r.next < stop → stop ≤ length chunk → get_or chunk r.next 0 ≡ COMMA
    → FieldRead chunk from stop (λ field bytes. Number field bytes first) r.value (r.next + 1)
comma_after {chunk} {from} {stop} {first} {r} digits h within is =
    record {
      further = omega (arith, digits.starts);
      ends = omega arith;
      reads = λ fields field bytes row more short.
          let one : bytes + (r.next + 1 - from) ≡ bytes + (r.next - from) + 1 = omega (arith, digits.starts) in
          rw one
          (then (digits.reads fields field bytes row (omega (arith, digits.starts)))
          (comma_read chunk r.next field (bytes + (r.next - from)) (omega arith) (omega (arith, digits.starts)) fields r.value row is more));
    }

module _ (chunk : List ℕ) (from stop : ℕ) (within : stop ≤ length chunk) (digit : (DIGIT ≤ get_or chunk from 0) × (get_or chunk from 0 ≤ DIGIT + 9)) where
  pub only_digit : 2 ≤ stop - from → get_or chunk (from + 1) 0 ≡ COMMA → FieldRead chunk from stop (λ field bytes. Start field bytes) (get_or chunk from 0 - DIGIT) (from + 2)
  only_digit h is =
      record {
        further = omega arith;
        ends = omega arith;
        reads = λ fields field bytes row more short.
            let two : bytes + (from + 2 - from) ≡ bytes + 1 + 1 = omega arith in
            let there : from + 2 ≡ from + 1 + 1 = omega arith in
            rw (two, there)
            (then (first_digit_read chunk from field bytes (omega arith) (omega arith) fields row digit.0 digit.1)
            (comma_read chunk (from + 1) field (bytes + 1) (omega arith) (omega arith) fields (get_or chunk from 0 - DIGIT) row is more));
      }

  pub first_digit_then : (r : Option Digits) → from < stop → AfterFirst chunk (from + 1) stop (get_or chunk from 0 - DIGIT) r → FromStart chunk from stop r
  first_digit_then (Some whole) h rest =
      record {
        further = omega (arith, rest.further);
        ends = rest.ends;
        reads = λ fields field bytes row more short.
            let one : bytes + (whole.next - from) ≡ bytes + 1 + (whole.next - (from + 1)) = omega (arith, rest.further) in
            rw one
            (then (first_digit_read chunk from field bytes (omega arith) (omega (arith, rest.further)) fields row digit.0 digit.1)
            (rest.reads fields field (bytes + 1) row more (omega (arith, rest.further))));
      }
  first_digit_then None h rest = rest
