-- Rules, "The text and the program": the whole run program, from three files to the output.
use Rattle.program_files.specs.declared.Unread.TheVariants.{Broken, Lost}
use Rattle.refusals.specs.Checks.{Answer}
use Rattle.std.specs.Prelude.{ℕ, ◌+◌, List, [], ◌∷◌, ◌++◌, set, Ok, Err}
use Rattle.whole.specs.Lists.{zeros}
use Rattle.refusals.specs.Refusals.{place_of}
use Rattle.layout.specs.Layout.{WIDTH, state_length, demand_length}
use Rattle.layout.specs.Corridor.{Corridor, corridor_of, cells_of}
use Rattle.text_scans.specs.Scans.{begin, feed, ended}
use Rattle.text_scans.specs.declared.Scan.{Scan}
use Rattle.text_scans.specs.declared.Step.{Step}
use Rattle.text_scans.specs.declared.Step.TheVariants.{More, Field, Complete, Breaks}
use Rattle.text_scans.specs.declared.End.{End}
use Rattle.text_scans.specs.declared.End.TheVariants.{Nothing, Last, Cut}
use Rattle.text_records.specs.Reads.{held, numbers, row_at_end, Text}
use Rattle.period.specs.Sharing.{Sharing}
use Rattle.period.specs.Period.{corridor_after}
use Rattle.program_files.specs.Stops.{broken, refused_in}
use Rattle.program_files.specs.Files.{cells_found, state_found, demand_lost, File, Found}
use Rattle.program_steps.specs.Lines.{HEADER, stop_text}
use Rattle.program_steps.specs.Turns.{demand_answer, lines_of}

-- a file: its text, or nothing where it is missing
pub data Given : Type 0 where
  missing : Given
  text : List ℕ → Given

-- what a file of records of so many fields is found to be, and its numbers
abbrev pub text_file : Text → File
text_file (Ok n) = Ok n
text_file (Err refusal) = Err (Broken (place_of refusal))

abbrev pub file_given : ℕ → Given → File
file_given fields missing = Err Lost
file_given fields (text bytes) = text_file (held fields bytes)

abbrev pub numbers_given : ℕ → Given → List ℕ
numbers_given fields missing = []
numbers_given fields (text bytes) = numbers fields bytes

-- the records of the demand, one after the other, until the text ends or a record breaks
pub data Records : Type 0 where
  end : Records
  break : Records
  then : List ℕ → Records → Records

unfoldable pub last_record : End → List ℕ → Records
last_record Nothing row = end
last_record Last row = then row end
last_record Cut row = break

unfoldable pub records_from : Step → List ℕ → (Scan → List ℕ → Records) → Records
records_from (More next) row on = on next row
records_from (Field field number next) row on = on next (set row field number)
records_from Complete row on = then row (on begin row)
records_from Breaks row on = break

unfoldable pub records_on : ℕ → Scan → List ℕ → List ℕ → Records
records_on fields scan row [] = last_record (ended scan fields) (row_at_end fields scan row)
records_on fields scan row (byte ∷ rest) = records_from (feed scan byte fields) row (λ next now. records_on fields next now rest)

-- the lines of a period, then those after it; where its record is refused, that refusal's line
unfoldable pub periods_from : ℕ → Answer → List ℕ → List ℕ → List ℕ
periods_from k (Ok done) lines rest = lines ++ rest
periods_from k (Err refusal) lines rest = stop_text (refused_in k refusal)

-- go on where nothing is refused, else end with the refusal's line
unfoldable pub or_halt : Found → (ℕ → List ℕ) → List ℕ
or_halt (Ok n) on = on n
or_halt (Err stop) on = stop_text stop

module _ (way : Sharing) where
  -- the lines of the periods from k on, one for each record; a refused record ends them with its line
  unfoldable pub sheet_text : ℕ → Corridor → Records → List ℕ
  sheet_text k c end = []
  sheet_text k c break = stop_text (broken k k 3)
  sheet_text k c (then row rest) = periods_from k (demand_answer c row) (lines_of way k c row) (sheet_text (k + 1) (corridor_after way c row) rest)

  -- the demand, under an accepted table and state
  unfoldable pub demand_text : Corridor → Given → List ℕ
  demand_text c missing = stop_text (demand_lost 0)
  demand_text c (text bytes) =
      sheet_text 1 c (records_on (demand_length (cells_of c)) begin (zeros (demand_length (cells_of c))) bytes)

  -- the header; 12 for the cells, 1 on N, 12 for the state, 2 to 5, 12 for a missing demand; then period after period
  unfoldable pub simulated : Given → Given → Given → List ℕ
  simulated cells_file state_file demand_file =
      HEADER
      ++ or_halt (cells_found (file_given WIDTH cells_file)) λ n.
      let c = corridor_of (numbers_given WIDTH cells_file) (numbers_given (state_length n) state_file) in
      or_halt (state_found (file_given (state_length n) state_file) c) λ _. demand_text c demand_file
