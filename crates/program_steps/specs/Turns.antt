-- Rules, "The text and the program": a demand record is read, checked, run and written, one for each period.
use Rattle.std.specs.Prelude.{ℕ, List, [], Ok, Err}
use Rattle.refusals.specs.declared.Refusal.{Refusal}
use Rattle.refusals.specs.Checks.{answer, Answer}
use Rattle.layout.specs.Corridor.{Corridor, cells_of}
use Rattle.text_scans.specs.Scans.{begin}
use Rattle.text_scans.specs.declared.Scan.{Scan}
use Rattle.text_scans.specs.declared.End.{End}
use Rattle.text_scans.specs.declared.End.TheVariants.{Nothing, Last, Cut}
use Rattle.text_records.specs.declared.Read.{Read}
use Rattle.text_records.specs.declared.Read.TheVariants.{Record, Broken}
use Rattle.accept_rows.specs.Acceptance.{demand_numbers}
use Rattle.period.specs.Sharing.{Sharing}
use Rattle.period.specs.Period.{sheet_of, state_after}
use Rattle.program_files.specs.Stops.{broken, refused_in}
use Rattle.program_steps.specs.Lines.{period_text, stop_text}

-- what reading on in the demand comes to
pub data Did : Type 0 where
  -- no record is complete, and the reading stands here
  reads : Scan → Did
  -- the record breaks a rule
  breaks : Did
  -- the record is refused
  refuses : Refusal → Did
  -- its period is run, and the chunk goes on at this index
  passes : ℕ → Did

-- a complete record, by its answer
unfoldable pub did_row : Answer → ℕ → Did
did_row (Ok done) next = passes next
did_row (Err refusal) next = refuses refusal

-- 12 comes before 6 and 7
unfoldable pub did : Read → Answer → Did
did (Read.Part scan) a = reads scan
did Broken a = breaks
did (Record next) a = did_row a next

-- the end of the demand, as a reading: a record that ends with it is complete
abbrev pub last_read : End → Read
last_read Nothing = Read.Part begin
last_read Last = Record 0
last_read Cut = Broken

-- what is written in period k, whose lines these would be
unfoldable pub did_text : ℕ → List ℕ → Did → List ℕ
did_text k lines (reads scan) = []
did_text k lines breaks = stop_text (broken k k 3)
did_text k lines (refuses refusal) = stop_text (refused_in k refusal)
did_text k lines (passes next) = lines

-- what holds after a period that is run, else before it
unfoldable pub when_passed : {A : Type 0} → Did → A → A → A
when_passed (passes next) new old = new
when_passed (reads scan) new old = old
when_passed breaks new old = old
when_passed (refuses refusal) new old = old

-- 6 and 7 of a demand row
abbrev pub demand_answer : Corridor → List ℕ → Answer
demand_answer c row = answer (demand_numbers c row)

-- the lines of an accepted period
abbrev pub lines_of : Sharing → ℕ → Corridor → List ℕ → List ℕ
lines_of way k c row = period_text k (cells_of c) (state_after way c row) (sheet_of way c row)
