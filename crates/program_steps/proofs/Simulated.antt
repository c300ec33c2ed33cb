-- Any run of the program's steps, over files cut into chunks in any way, writes what the program is defined to write. Assumes nothing.
use Prim.Native.Nat.{ℕ, suc, ◌*◌, ◌≤◌, ◌<◌}
use mathlib.Core.Path.{◌≡◌, refl, sym, ap, ◌∙◌}
use mathlib.Core.Bool.{Bool, true, false}
use mathlib.Core.List.{List, [], ◌∷◌, ◌++◌}
use native.Mathlib.Omega.{arith}
use borrow.Author.Tests.{eqb-true}
use lib.Dec.{eqb}
use lib.ListN.{length, take}
use lib.Seq.{sets}
use Rattle.std.specs.Prelude.{Ok, Err}
use Rattle.program_files.specs.declared.Unread.TheVariants.{Broken, Lost}
use Rattle.whole.specs.Search.{pick}
use Rattle.whole.proofs.Lists.{zeros-length}
use Rattle.whole.specs.Lists.{zeros}
use Rattle.refusals.specs.Checks.{answer}
use Rattle.layout.specs.Layout.{cells, state_length, demand_length, table_length, MOST, WIDTH}
use Rattle.layout.specs.Corridor.{Corridor, corridor_of, cells_of}
use Rattle.text_scans.specs.Scans.{begin}
use Rattle.text_records.specs.Texts.{together}
use Rattle.text_records.specs.Reads.{held, numbers, Text}
use Rattle.text_laws.proofs.Accepted.{accepted_count}
use Rattle.accept_rows.specs.Acceptance.{state_checks}
use Rattle.period.specs.Sharing.{Sharing}
use Rattle.program_files.specs.Stops.{broken}
use Rattle.program_files.specs.Files.{cells_found, state_found, accepted_then, File, Found, standing}
use Rattle.program_files.proofs.Finding.{Cells, cells_told, state_told}
use Rattle.program_steps.specs.Lines.{HEADER}
use Rattle.program_steps.specs.Program.{Given, missing, text, text_file, file_given, numbers_given, records_on, sheet_text, demand_text, or_halt, simulated}
use Rattle.program_steps.specs.Steps.{cells_read, state_read, corridor_read, state_answer, Chunked, absent, chunks, given, read_file, Writes, cells_stop, state_stop, demand_stop, runs}
use Rattle.program_steps.proofs.Texts.{file_is_text, pieces_are_whole}
use Rattle.program_steps.proofs.Sheets.{follows_writes}

-- a file has fewer than 2^64 − 2 bytes: then no count of records or periods comes to its limit
abbrev pub Short : Chunked → Type 0
Short absent = Unit {0}
Short (chunks pieces) = length (together pieces) < 18446744073709551614

-- numbers stored from a list's start on, where they have room
sets_after : (x : ℕ) (l xs : List ℕ) (i : ℕ) → sets (x ∷ l) (suc i) xs ≡ x ∷ sets l i xs
sets_after x l [] i = refl
sets_after x l (y ∷ ys) i = sets_after x _ ys (suc i)

pub stored_first : (l xs : List ℕ) → length xs ≤ length l → take (length xs) (sets l 0 xs) ≡ xs
stored_first l [] h = refl
stored_first [] (x ∷ xs) h = absurd (omega arith)
stored_first (y ∷ l) (x ∷ xs) h = rw (sets_after x l xs 0) (ap (λ (rest : List ℕ). x ∷ rest) (stored_first l xs (omega arith)))

pub stored_whole : (l xs : List ℕ) → length xs ≡ length l → sets l 0 xs ≡ xs
stored_whole [] [] h = refl
stored_whole [] (x ∷ xs) h = absurd (omega arith)
stored_whole (y ∷ l) [] h = absurd (omega arith)
stored_whole (y ∷ l) (x ∷ xs) h = rw (sets_after x l xs 0) (ap (λ (rest : List ℕ). x ∷ rest) (stored_whole l xs (omega arith)))

-- a file read in chunks is the file that is given
pub read_is_given : (fields : ℕ) (list : List ℕ) (file : Chunked) → Short file → read_file fields list file ≡ (file_given fields (given file), sets list 0 (numbers_given fields (given file)))
unfolding read_file held numbers
read_is_given fields list absent short = refl
read_is_given fields list (chunks pieces) short = rw (pieces_are_whole fields (standing 0 0 begin) list pieces) (file_is_text fields 0 0 begin list (together pieces) (omega arith))

-- a file of n records has as many numbers as they have fields
holds_numbers : (fields n : ℕ) (file : Given) → file_given fields file ≡ Ok n → length (numbers_given fields file) ≡ n * fields
holds_numbers fields n missing e = absurd (let z : ◌≡◌ {A = ℕ} 0 1 = cc in omega arith)
holds_numbers fields n (text bytes) e = accepted_count fields bytes n (by (held fields bytes) e)
  where
    by : (found : Text) → text_file found ≡ Ok n → found ≡ Ok n
    by (Ok m) e = let same : m ≡ n = cc in ap Ok same
    by (Err refusal) e = absurd (let z : ◌≡◌ {A = ℕ} 0 1 = cc in omega arith)

-- the state's numbers matter only where there is one record of them
state_found_same : (file : File) (c d : Corridor) → (file ≡ Ok 1 → c ≡ d) → state_found file c ≡ state_found file d
unfolding state_found
state_found_same (Err Lost) c d same = refl
state_found_same (Err (Broken place)) c d same = refl
state_found_same (Ok n) c d same = by (eqb n 1) refl
  where
    found : Bool → Corridor → Found
    found one x = pick (eqb n 0) (Err (broken 0 1 2)) (pick one (accepted_then (answer (state_checks x))) (Err (broken 0 2 2)))

    by : (one : Bool) → eqb n 1 ≡ one → found one c ≡ found one d
    by false e = refl
    by true e = ap (found true) (same (ap Ok (eqb-true n 1 e)))

-- The cells and the state that the steps go on with.

module _ (way : Sharing) (cells_file state_file : Chunked) (short : Short cells_file) (short' : Short state_file) where
  abbrev table_given : List ℕ
  table_given = numbers_given WIDTH (given cells_file)

  cells_read_lem : cells_read cells_file ≡ (file_given WIDTH (given cells_file), sets (zeros (table_length MOST)) 0 table_given)
  cells_read_lem = read_is_given WIDTH (zeros (table_length MOST)) cells_file short

  cells_same : cells_found (cells_read cells_file).0 ≡ cells_found (file_given WIDTH (given cells_file))
  cells_same = ap (λ (p : File × List ℕ). cells_found p.0) cells_read_lem

  module _ (n : ℕ) (go : cells_found (cells_read cells_file).0 ≡ Ok n) where
    told : Cells (file_given WIDTH (given cells_file)) n
    told = cells_told _ n (sym cells_same ∙ go)

    count : length table_given ≡ n * WIDTH
    count = holds_numbers WIDTH n (given cells_file) told.held

    table_is : take (table_length n) (cells_read cells_file).1 ≡ table_given
    table_is =
        let space = zeros (table_length MOST) in
        let as_many : table_length n ≡ length table_given = omega (arith, count) in
        let room : length table_given ≤ length space = omega (arith, count, told.most, zeros-length (table_length MOST)) in
        ap (λ (p : File × List ℕ). take (table_length n) p.1) cells_read_lem
        ∙ ap (λ (k : ℕ). take k (sets space 0 table_given)) as_many
        ∙ stored_first space table_given room

    table_cells : cells table_given ≡ n
    table_cells = omega (arith, count)

    abbrev corridor_given : Corridor
    corridor_given = corridor_of table_given (numbers_given (state_length n) (given state_file))

    abbrev corridor : Corridor
    corridor = corridor_read n cells_file state_file

    state_read_lem : state_read n state_file ≡ (file_given (state_length n) (given state_file), sets (zeros (state_length n)) 0 corridor_given.state)
    state_read_lem = read_is_given (state_length n) (zeros (state_length n)) state_file short'

    corridor_is : file_given (state_length n) (given state_file) ≡ Ok 1 → corridor ≡ corridor_given
    corridor_is one =
        let space = zeros (state_length n) in
        let as_many : length corridor_given.state ≡ length space = omega (arith, holds_numbers (state_length n) 1 (given state_file) one, zeros-length (state_length n)) in
        let state-is = ap (λ (p : File × List ℕ). p.1) state_read_lem ∙ stored_whole space corridor_given.state as_many in
        λ i. corridor_of (table_is i) (state-is i)

    state_same : state_answer n cells_file state_file ≡ state_found (file_given (state_length n) (given state_file)) corridor_given
    state_same =
        ap (λ (p : File × List ℕ). state_found p.0 corridor) state_read_lem
        ∙ state_found_same (file_given (state_length n) (given state_file)) corridor corridor_given corridor_is

    -- the program as defined, once the cells and the state are found
    after_cells : (demand_file : Chunked) {out : List ℕ}
        → out ≡ or_halt (state_found (file_given (state_length n) (given state_file)) corridor_given) (λ one. demand_text way corridor_given (given demand_file))
        → HEADER ++ out ≡ simulated way (given cells_file) (given state_file) (given demand_file)
    unfolding simulated or_halt
    after_cells demand_file e = ap (λ (rest : List ℕ). HEADER ++ rest) (e ∙ rw (sym cells_same ∙ go))

    after_state : (demand_file : Chunked) (one : ℕ) {out : List ℕ} → state_answer n cells_file state_file ≡ Ok one
        → out ≡ demand_text way corridor_given (given demand_file)
        → HEADER ++ out ≡ simulated way (given cells_file) (given state_file) (given demand_file)
    unfolding or_halt
    after_state demand_file one found e = after_cells demand_file (e ∙ rw (sym state_same ∙ found))

    -- the demand under the lists that were read is the demand under the numbers that are given
    demand_same : (one : ℕ) (bytes : List ℕ) → state_answer n cells_file state_file ≡ Ok one
        → sheet_text way 1 corridor (records_on (demand_length (cells_of corridor)) begin (zeros (demand_length n)) bytes) ≡ demand_text way corridor_given (text bytes)
    unfolding demand_text
    demand_same one bytes found =
        let held = sym (ap (λ (p : File × List ℕ). p.0) state_read_lem) ∙ (state_told (state_read n state_file).0 corridor one found).held in
        ap (λ (c : Corridor). sheet_text way 1 c (records_on (demand_length (cells_of c)) begin (zeros (demand_length n)) bytes)) (corridor_is held)
        ∙ ap (λ (m : ℕ). sheet_text way 1 corridor_given (records_on (demand_length (cells_of corridor_given)) begin (zeros (demand_length m)) bytes)) (sym table_cells)

-- what the steps write is what the program is defined to write, under any way of sharing
pub steps_write_what_is_simulated : {way : Sharing} {cells_file state_file demand_file : Chunked} {out : List ℕ} → Short cells_file → Short state_file → Short demand_file → Writes way cells_file state_file demand_file out
    → out ≡ simulated way (given cells_file) (given state_file) (given demand_file)
unfolding simulated or_halt demand_text
steps_write_what_is_simulated {way} {cells_file} {state_file} s s' s'' (cells_stop stop e) = rw (sym (cells_same way cells_file state_file s s') ∙ e)
steps_write_what_is_simulated {way} {cells_file} {state_file} {demand_file} s s' s'' (state_stop n stop go e) =
    after_cells way cells_file state_file s s' n go demand_file (rw (sym (state_same way cells_file state_file s s' n go) ∙ e))
steps_write_what_is_simulated {way} {cells_file} {state_file} s s' s'' (demand_stop n one go found) = after_state way cells_file state_file s s' n go absent one found refl
steps_write_what_is_simulated {way} {cells_file} {state_file} s s' s'' (runs {pieces} {out} n one go found follows) =
    after_state way cells_file state_file s s' n go (chunks pieces) one found
    (follows_writes way follows (omega arith) ∙ demand_same way cells_file state_file s s' n go one (together pieces) found)
