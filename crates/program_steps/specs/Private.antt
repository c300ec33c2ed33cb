-- Cited by private contracts and proofs alone: no public promise rests on this file.
-- The lists of a run, one turn of the demand and the lines that it puts, and the calls between two standings of the demand.
use Rattle.std.specs.Prelude.{ℕ, ◌+◌, ◌*◌, ◌≤◌, ◌≡◌, true, List, ◌++◌, length}
use Rattle.std.proofs.lemmas.List.Edits.{sets}
use Rattle.whole.specs.Lists.{build}
use Rattle.refusals.specs.Checks.{answer, accepted}
use Rattle.layout.specs.Layout.{MOST, state_length, demand_length}
use Rattle.layout.specs.Sheet.{sheet_length}
use Rattle.layout.specs.Corridor.{Corridor, cells_of}
use Rattle.text_digits.specs.Lines.{digits_of, line_text}
use Rattle.text_scans.specs.declared.Scan.{Scan}
use Rattle.text_records.specs.Texts.{text_of}
use Rattle.accept_rows.specs.Acceptance.{state_lengths_fit, state_numbers}
use Rattle.period.specs.Sharing.{Sharing}
use Rattle.period.specs.Period.{sheet_of, corridor_after}
use Rattle.program_steps.specs.Lines.{line_room, cell_record}
use Rattle.program_steps.specs.Turns.{Did, reads, breaks, refuses, passes, did_text, when_passed, lines_of}
use Rattle.program_steps.specs.Demand.{lines_room}
use Rattle.program_steps.specs.Steps.{Follows}
use Rattle.program_steps.specs.declared.Turn.{Turn}
use Rattle.program_steps.specs.declared.Turn.TheVariants.{Part, Period, Over}

-- seven numbers, and room for the longest line of them at a position
pub record LineFits (numbers out : List ℕ) (at : ℕ) : Type 0 where
  pub seven : length numbers ≡ 7
  pub room : at + line_room ≤ length out

-- the entry's line
pub record EntryFits (state sheet out : List ℕ) (at : ℕ) : Type 0 where
  pub in_state : 1 ≤ length state
  pub in_sheet : 1 ≤ length sheet
  pub room : at + line_room ≤ length out

-- the state and the sheet that the lines of n cells come from
pub record LinesFrom (n : ℕ) (state sheet : List ℕ) : Type 0 where
  pub most : n ≤ MOST
  pub state_len : length state ≡ state_length n
  pub sheet_fits : length sheet ≡ sheet_length n

-- the line of the cell of index i, after the digits of a period
pub record CellFits (period : List ℕ) (n i : ℕ) (state sheet out : List ℕ) (at : ℕ) : Type 0 where
  pub short : length period ≤ 20
  pub inside : i + 1 ≤ n
  pub from : LinesFrom n state sheet
  pub room : at + line_room ≤ length out

-- the lines of n cells
pub record CellsFit (period : List ℕ) (n : ℕ) (state sheet out : List ℕ) (at : ℕ) : Type 0 where
  pub short : length period ≤ 20
  pub from : LinesFrom n state sheet
  pub room : at + line_room * n ≤ length out

-- the lines of a period of n cells
pub record PeriodFits (n : ℕ) (state sheet out : List ℕ) (at : ℕ) : Type 0 where
  pub from : LinesFrom n state sheet
  pub room : at + lines_room n ≤ length out

-- a text put at a position: where it ends, and the output after
pub record Put (text out : List ℕ) (at end : ℕ) (out_left : List ℕ) : Type 0 where
  pub ends : end ≡ at + length text
  pub stores : out_left ≡ sets out at text

-- a line, which is no longer than the longest
pub record PutLine (text out : List ℕ) (at end : ℕ) (out_left : List ℕ) : Type 0 where
  pub put : Put text out at end out_left
  pub within : end ≤ at + line_room

-- the digits of a period's number, at the start of a space for them
pub record PutDigits (k : ℕ) (space : List ℕ) (end : ℕ) (space_left : List ℕ) : Type 0 where
  pub ends : end ≡ length (digits_of k)
  pub within : end ≤ 20
  pub stores : space_left ≡ sets space 0 (digits_of k)

-- the line of the cell of index i, and the lines of n cells, under the period that the digits are of
pub record PutCell (period : List ℕ) (n i : ℕ) (state sheet out : List ℕ) (at end : ℕ) (out_left : List ℕ) : Type 0 where
  pub put : (k : ℕ) → period ≡ digits_of k → Put (line_text (cell_record k n state sheet i)) out at end out_left
  pub within : end ≤ at + line_room

abbrev pub PutCells : List ℕ → ℕ → List ℕ → List ℕ → List ℕ → ℕ → ℕ → List ℕ → Type 0
PutCells period n state sheet out at end out_left =
    (k : ℕ) → period ≡ digits_of k → Put (text_of (build n (cell_record k n state sheet))) out at end out_left

-- the turn that answers what reading on comes to, with the output written up to a position
unfoldable pub turn_of : Did → ℕ → Turn
turn_of (reads scan) at = Part scan at
turn_of breaks at = Over at
turn_of (refuses refusal) at = Over at
turn_of (passes next) at = Period next at

-- a turn of period k with the demand row that is complete, and what it leaves
pub record Turned (way : Sharing) (d : Did) (k : ℕ) (c : Corridor) (row sheet out : List ℕ) (at : ℕ) (turn : Turn) (corridor_left : Corridor) (sheet_left out_left : List ℕ) : Type 0 where
  pub answered : turn ≡ turn_of d (at + length (did_text k (lines_of way k c row) d))
  pub leaves_corridor : corridor_left ≡ when_passed d (corridor_after way c row) c
  pub leaves_sheet : sheet_left ≡ when_passed d (sheet_of way c row) sheet
  pub writes : out_left ≡ sets out at (did_text k (lines_of way k c row) d)

-- the lists of a run whose corridor is accepted
pub record Ready (c : Corridor) (row sheet : List ℕ) : Type 0 where
  pub fits : state_lengths_fit c ≡ true
  pub row_fits : length row ≡ demand_length (cells_of c)
  pub sheet_fits : length sheet ≡ sheet_length (cells_of c)
  pub accepted : answer (state_numbers c) ≡ accepted

-- and with room for a period's lines after a position of the output
pub record ReadyAt (c : Corridor) (row sheet out : List ℕ) (at : ℕ) : Type 0 where
  pub ready : Ready c row sheet
  pub room : at + lines_room (cells_of c) ≤ length out

-- where what a turn has written ends
abbrev pub written_to : Turn → ℕ
written_to (Part scan at) = at
written_to (Period next at) = at
written_to (Over at) = at

-- from one standing of the demand to another, over these chunks: the calls between them write these lines
pub record Leads (way : Sharing) (k : ℕ) (scan : Scan) (row : List ℕ) (c : Corridor) (sheet left : List ℕ) (pieces : List (List ℕ)) (k' : ℕ) (scan' : Scan) (row' : List ℕ) (c' : Corridor) (sheet' left' : List ℕ) : Type 0 where
  pub lines : List ℕ
  pub on : (more : List (List ℕ)) (out : List ℕ) → Follows way k' scan' row' c' sheet' left' more out → Follows way k scan row c sheet left (pieces ++ more) (lines ++ out)
