-- The steps as the program's loops of system calls take them: files come in chunks of any size, and what a call writes is passed on.
-- What a step does is what the function behind it promises; `proofs/Simulated` shows that any run of them writes what `Program` says.
use Rattle.program_files.specs.declared.Unread.TheVariants.{Lost}
use Rattle.std.specs.Prelude.{ℕ, ◌-◌, ◌≡◌, List, [], ◌∷◌, ◌++◌, length, take, drop, Ok, Err}
use Rattle.whole.specs.Lists.{zeros}
use Rattle.layout.specs.Layout.{WIDTH, MOST, table_length, state_length, demand_length}
use Rattle.layout.specs.Sheet.{sheet_length}
use Rattle.layout.specs.Corridor.{Corridor, corridor_of}
use Rattle.text_scans.specs.Scans.{begin}
use Rattle.text_scans.specs.declared.Scan.{Scan}
use Rattle.text_records.specs.Texts.{together}
use Rattle.period.specs.Sharing.{Sharing}
use Rattle.program_files.specs.Files.{file_on, file_end, cells_found, state_found, demand_lost, File, Found, Standing, standing}
use Rattle.program_files.specs.declared.Stop.{Stop}
use Rattle.program_steps.specs.Lines.{HEADER, stop_text}
use Rattle.program_steps.specs.Demand.{Followed, later, over, follow, follow_end}
use Rattle.program_steps.specs.Program.{Given, missing, text}

-- a file as it is read: in chunks, or not there
pub data Chunked : Type 0 where
  absent : Chunked
  chunks : List (List ℕ) → Chunked

abbrev pub given : Chunked → Given
given absent = missing
given (chunks pieces) = text (together pieces)

-- `read_on` for each chunk, then `read_end`
unfoldable pub pieces_on : ℕ → Standing → List ℕ → List (List ℕ) → Standing × List ℕ
pieces_on fields so list [] = (so, list)
pieces_on fields so list (piece ∷ rest) = pieces_on fields (file_on fields so list piece).0 (file_on fields so list piece).1 rest

unfoldable pub read_file : ℕ → List ℕ → Chunked → File × List ℕ
read_file fields list absent = (Err Lost, list)
read_file fields list (chunks pieces) =
    let whole = pieces_on fields (standing 0 0 begin) list pieces in
    file_end fields whole.0 whole.1

-- `follow` for what is left of a chunk of the demand, with room for any number of bytes, and on to the next chunk; `end` at the end. In
-- period k the reading stands at scan, with the row, the state and the sheet so far
pub data Follows (way : Sharing) : ℕ → Scan → List ℕ → Corridor → List ℕ → List ℕ → List (List ℕ) → List ℕ → Type 0 where
  next_chunk : {k : ℕ} {scan : Scan} {row : List ℕ} {c : Corridor} {sheet chunk : List ℕ} {more : List (List ℕ)} {out : List ℕ}
      → Follows way k scan row c sheet chunk more out → Follows way k scan row c sheet [] (chunk ∷ more) out
  call : {k k' : ℕ} {scan scan' : Scan} {row : List ℕ} {c : Corridor} {sheet left : List ℕ} {more : List (List ℕ)} {out : List ℕ} (room rest : ℕ) (f : Followed)
      → f ≡ follow way room k scan row c sheet left → f.how ≡ later k' scan' rest
      → Follows way k' scan' f.row f.corridor f.sheet (drop (length left - rest) left) more out
      → Follows way k scan row c sheet left more (f.text ++ out)
  stop : {k : ℕ} {scan : Scan} {row : List ℕ} {c : Corridor} {sheet left : List ℕ} {more : List (List ℕ)} (room : ℕ) (f : Followed)
      → f ≡ follow way room k scan row c sheet left → f.how ≡ over
      → Follows way k scan row c sheet left more f.text
  end : {k : ℕ} {scan : Scan} {row : List ℕ} {c : Corridor} {sheet : List ℕ} → Follows way k scan row c sheet [] [] (follow_end way k scan row c sheet).text

-- the table and the state as they are read: the first n rows of a list of 512, and a list of the state's length
abbrev pub cells_read : Chunked → File × List ℕ
cells_read cells_file = read_file WIDTH (zeros (table_length MOST)) cells_file

abbrev pub state_read : ℕ → Chunked → File × List ℕ
state_read n state_file = read_file (state_length n) (zeros (state_length n)) state_file

abbrev pub corridor_read : ℕ → Chunked → Chunked → Corridor
corridor_read n cells_file state_file = corridor_of (take (table_length n) (cells_read cells_file).1) (state_read n state_file).1

abbrev pub state_answer : ℕ → Chunked → Chunked → Found
state_answer n cells_file state_file = state_found (state_read n state_file).0 (corridor_read n cells_file state_file)

-- `main`: the cells into a list of 512, the state into a list of its length, then the demand
pub data Writes (way : Sharing) (cells_file state_file : Chunked) : Chunked → List ℕ → Type 0 where
  cells_stop : {demand_file : Chunked} (stop : Stop) → cells_found (cells_read cells_file).0 ≡ Err stop → Writes way cells_file state_file demand_file (HEADER ++ stop_text stop)
  state_stop : {demand_file : Chunked} (n : ℕ) (stop : Stop) → cells_found (cells_read cells_file).0 ≡ Ok n
      → state_answer n cells_file state_file ≡ Err stop
      → Writes way cells_file state_file demand_file (HEADER ++ stop_text stop)
  demand_stop : (n one : ℕ) → cells_found (cells_read cells_file).0 ≡ Ok n
      → state_answer n cells_file state_file ≡ Ok one
      → Writes way cells_file state_file absent (HEADER ++ stop_text (demand_lost 0))
  runs : {pieces : List (List ℕ)} {out : List ℕ} (n one : ℕ) → cells_found (cells_read cells_file).0 ≡ Ok n
      → state_answer n cells_file state_file ≡ Ok one
      → Follows way 1 begin (zeros (demand_length n)) (corridor_read n cells_file state_file) (zeros (sheet_length n)) [] pieces out
      → Writes way cells_file state_file (chunks pieces) (HEADER ++ out)
