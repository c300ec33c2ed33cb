-- Rules, "The text and the program": what one byte of a text does, by where the reading stands in its record.
use Rattle.std.specs.Prelude.{ℕ, ◌+◌, ◌-◌, ◌*◌, Bool, false, ◌&&◌, not, leb, ltb, eqb, Option, Some, None}
use Rattle.whole.specs.Search.{pick, within}
use Rattle.text_digits.specs.Lines.{LF, CR, COMMA, DIGIT}
use Rattle.text_scans.specs.declared.Scan.{Scan}
use Rattle.text_scans.specs.declared.Scan.TheVariants.{Start, Number, Return}
use Rattle.text_scans.specs.declared.Step.{Step}
use Rattle.text_scans.specs.declared.Step.TheVariants.{More, Field, Complete, Breaks}
use Rattle.text_scans.specs.declared.LastField.{LastField}
use Rattle.text_scans.specs.declared.End.{End}
use Rattle.text_scans.specs.declared.End.TheVariants.{Nothing, Last, Cut}

-- the largest number that a field holds
abbrev pub LARGEST : ℕ
LARGEST = 4294967295

-- the most bytes that a record has before its end
abbrev pub LONGEST : ℕ
LONGEST = 16384

-- at a record's start
abbrev pub begin : Scan
begin = Start 0 0

abbrev pub is_digit : ℕ → Bool
is_digit byte = within DIGIT (DIGIT + 9) byte

-- a field begins with a digit
unfoldable pub at_start : ℕ → ℕ → ℕ → Step
at_start field bytes byte =
    pick (is_digit byte && ltb bytes LONGEST) (More (Number field (bytes + 1) (byte - DIGIT))) Breaks

-- a digit after others: none follows a leading 0, and the number is at most the largest
unfoldable pub longer : ℕ → ℕ → ℕ → ℕ → Step
longer field bytes value digit =
    pick ((not (eqb value 0) && leb (value * 10 + digit) LARGEST) && ltb bytes LONGEST)
    (More (Number field (bytes + 1) (value * 10 + digit)))
    Breaks

-- a comma ends a field that is not the record's last, and CR the one that is
unfoldable pub in_number : ℕ → ℕ → ℕ → ℕ → ℕ → Step
in_number field bytes value byte fields =
    pick (is_digit byte) (longer field bytes value (byte - DIGIT))
    (pick ((eqb byte COMMA && ltb (field + 1) fields) && ltb bytes LONGEST) (Field field value (Start (field + 1) (bytes + 1)))
    (pick (eqb byte CR && eqb (field + 1) fields) (Field field value Return) Breaks))

-- what a byte does in a record of so many fields; after CR comes LF
unfoldable pub feed : Scan → ℕ → ℕ → Step
feed (Start field bytes) byte fields = at_start field bytes byte
feed (Number field bytes value) byte fields = in_number field bytes value byte fields
feed Return byte fields = pick (eqb byte LF) Complete Breaks

-- no byte of a record is read yet
abbrev pub untouched : Scan → Bool
untouched (Start field bytes) = eqb field 0
untouched (Number field bytes value) = false
untouched Return = false

abbrev pub last_field : Step → End → End
last_field (More next) other = other
last_field (Field field number next) other = Last
last_field Complete other = other
last_field Breaks other = other

-- the field that a step completes
abbrev pub completed : Step → Option LastField
completed (More next) = None
completed (Field field number next) = Some (record { field = field; number = number })
completed Complete = None
completed Breaks = None

-- the text ends: after a last field, as CR LF would end the record; else between records, or inside one, which breaks it
unfoldable pub ended : Scan → ℕ → End
ended scan fields = last_field (feed scan CR fields) (pick (untouched scan) Nothing Cut)
