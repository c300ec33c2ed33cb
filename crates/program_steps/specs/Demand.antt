-- Rules, "The text and the program": the demand, followed byte after byte. A complete record has its period and its lines.
-- Following stops where the bytes are used up, where the output has no room for another period's lines, and where a record is refused.
use Rattle.std.specs.Prelude.{ℕ, ◌+◌, ◌-◌, ◌*◌, ◌≡◌, Bool, ◌&&◌, List, [], ◌∷◌, ◌++◌, leb, eqb, length, set, Ok, Err, Result}
use Rattle.std.proofs.lemmas.List.Edits.{sets}
use Rattle.whole.specs.Search.{pick}
use Rattle.refusals.specs.declared.Refusal.{Refusal}
use Rattle.refusals.specs.Checks.{Check, answer, lengths, Answer}
use Rattle.layout.specs.Layout.{demand_length}
use Rattle.layout.specs.Sheet.{sheet_length}
use Rattle.layout.specs.Corridor.{Corridor, cells_of}
use Rattle.text_scans.specs.Scans.{begin, feed, ended}
use Rattle.text_scans.specs.declared.Scan.{Scan}
use Rattle.text_scans.specs.declared.Step.{Step}
use Rattle.text_scans.specs.declared.Step.TheVariants.{More, Field, Complete, Breaks}
use Rattle.text_records.specs.Reads.{row_at_end}
use Rattle.accept_rows.specs.Acceptance.{state_lengths_fit, state_numbers}
use Rattle.period.specs.Sharing.{Sharing}
use Rattle.period.specs.Period.{sheet_of, corridor_after}
use Rattle.program_files.specs.Stops.{broken, refused_in}
use Rattle.program_files.specs.Files.{counted}
use Rattle.program_files.specs.declared.Stop.{Stop}
use Rattle.program_steps.specs.Lines.{line_room, stop_text}
use Rattle.program_steps.specs.Turns.{Did, did, last_read, did_text, when_passed, demand_answer, lines_of}
use Rattle.program_steps.specs.declared.Run.{Run}

-- how following ends
pub data How : Type 0 where
  -- it goes on later: period k is being tried, the reading stands here, and so many bytes are left
  later : ℕ → Scan → ℕ → How
  -- the last line is written
  over : How
  -- the lists are not those of a run
  refused : Refusal → How

-- what following comes to: the lists as they are left, and the lines that are written
pub record Followed : Type 0 where
  pub how : How
  pub row : List ℕ
  pub corridor : Corridor
  pub sheet : List ℕ
  pub text : List ℕ

abbrev pub silent : How → List ℕ → Corridor → List ℕ → Followed
silent how row c sheet = record { how = how; row = row; corridor = c; sheet = sheet; text = [] }

abbrev pub stopped : Stop → List ℕ → Corridor → List ℕ → Followed
stopped stop row c sheet = record { how = over; row = row; corridor = c; sheet = sheet; text = stop_text stop }

abbrev pub after : List ℕ → Followed → Followed
after lines rest = record { how = rest.how; row = rest.row; corridor = rest.corridor; sheet = rest.sheet; text = lines ++ rest.text }

-- 6 and 7 of a complete record, then its period
unfoldable pub tried : Answer → ℕ → List ℕ → Corridor → List ℕ → Followed → Followed
tried (Ok done) k row c sheet period = period
tried (Err refusal) k row c sheet period = stopped (refused_in k refusal) row c sheet

-- one byte: 12 comes before 6 and 7
unfoldable pub follow_of : Step → ℕ → List ℕ → Corridor → List ℕ → (Scan → List ℕ → Followed) → Followed → Followed
follow_of (More next) k row c sheet on complete = on next row
follow_of (Field field number next) k row c sheet on complete = on next (set row field number)
follow_of Complete k row c sheet on complete = complete
follow_of Breaks k row c sheet on complete = stopped (broken k k 3) row c sheet

-- the lines of a period of n cells take at most so many bytes
abbrev pub lines_room : ℕ → ℕ
lines_room n = line_room * (n + 1)

-- a row and a sheet of their lengths, and room for a period's lines
unfoldable pub follow_lists_fit : ℕ → List ℕ → List ℕ → List ℕ → Bool
follow_lists_fit n row sheet out = eqb (length row) (demand_length n) && eqb (length sheet) (sheet_length n) && leb (lines_room n) (length out)

-- what is asked of the lists of a run: numbers 1 to 5
unfoldable pub follow_checks : Corridor → List ℕ → List ℕ → List ℕ → List Check
follow_checks c row sheet out = lengths (state_lengths_fit c && follow_lists_fit (cells_of c) row sheet out) ∷ state_numbers c

-- any call: lists that are refused stay as they came
abbrev pub if_accepted : Answer → List ℕ → Corridor → List ℕ → Followed → Followed
if_accepted (Ok done) row c sheet followed = followed
if_accepted (Err refusal) row c sheet followed = silent (refused refusal) row c sheet

module _ (way : Sharing) where
  -- from period k on, with room for so many bytes of lines
  unfoldable pub follow : ℕ → ℕ → Scan → List ℕ → Corridor → List ℕ → List ℕ → Followed
  follow room k scan row c sheet [] = silent (later k scan 0) row c sheet
  follow room k scan row c sheet (byte ∷ rest) =
      let lines = lines_of way k c row in
      let c' = corridor_after way c row in
      let sheet' = sheet_of way c row in
      follow_of (feed scan byte (demand_length (cells_of c))) k row c sheet (λ next now. follow room k next now c sheet rest)
      (tried (demand_answer c row) k row c sheet
      (after lines
      (pick (leb (lines_room (cells_of c)) (room - length lines))
      (follow (room - length lines) (counted k) begin row c' sheet' rest)
      (silent (later (counted k) begin (length rest)) row c' sheet'))))

  -- the demand ends: a record that ends with it has its period
  abbrev pub last_of : Did → ℕ → List ℕ → Corridor → List ℕ → Followed
  last_of d k row c sheet =
      record {
        how = over;
        row = row;
        corridor = when_passed d (corridor_after way c row) c;
        sheet = when_passed d (sheet_of way c row) sheet;
        text = did_text k (lines_of way k c row) d;
      }

  unfoldable pub follow_end : ℕ → Scan → List ℕ → Corridor → List ℕ → Followed
  follow_end k scan row c sheet =
      let last = row_at_end (demand_length (cells_of c)) scan row in
      last_of (did (last_read (ended scan (demand_length (cells_of c)))) (demand_answer c last)) k last c sheet

  abbrev pub follow_call : ℕ → Scan → List ℕ → Corridor → List ℕ → List ℕ → List ℕ → Followed
  follow_call k scan row c sheet out bytes = if_accepted (answer (follow_checks c row sheet out)) row c sheet (follow (length out) k scan row c sheet bytes)

  abbrev pub end_call : ℕ → Scan → List ℕ → Corridor → List ℕ → List ℕ → Followed
  end_call k scan row c sheet out = if_accepted (answer (follow_checks c row sheet out)) row c sheet (follow_end k scan row c sheet)

-- the answer, with so many bytes given and so many written
unfoldable pub run_of : How → ℕ → ℕ → Result Run Refusal
run_of (later k scan left) given written = Ok (Run.On (given - left) k scan written)
run_of over given written = Ok (Run.Over written)
run_of (refused refusal) given written = Err refusal

-- what a call answers and leaves; its lines go to the start of the output
pub record Leaves (followed : Followed) (given : ℕ) (out : List ℕ) (run : Result Run Refusal) (row_left : List ℕ) (corridor_left : Corridor) (sheet_left out_left : List ℕ) : Type 0 where
  pub answered : run ≡ run_of followed.how given (length followed.text)
  pub leaves_row : row_left ≡ followed.row
  pub leaves_corridor : corridor_left ≡ followed.corridor
  pub leaves_sheet : sheet_left ≡ followed.sheet
  pub writes : out_left ≡ sets out 0 followed.text
