-- Rules, "The text and the program": the lines that the run program writes. Each ends with CR LF.
use Rattle.refusals.specs.declared.Refusal.{Refusal}
use Rattle.std.specs.Prelude.{ℕ, ◌+◌, List, [], ◌∷◌, ◌++◌, leb, length, Result, Ok}
use Rattle.std.proofs.lemmas.List.Edits.{sets}
use Rattle.whole.specs.Lists.{build}
use Rattle.whole.specs.Search.{pick}
use Rattle.layout.specs.Layout.{entry_queue, count_at}
use Rattle.layout.specs.Sheet.{flow_in, off_flow_in, on_flow_in, mode_in}
use Rattle.text_digits.specs.Lines.{LF, CR, line_text}
use Rattle.text_digits.specs.Writes.{no_room}
use Rattle.text_records.specs.Texts.{text_of}
use Rattle.program_files.specs.declared.Stop.{Stop}

-- the header: k,i,n,f,s,r,mode
abbrev pub HEADER : List ℕ
HEADER =
    107 ∷ 44 ∷ 105 ∷ 44 ∷ 110 ∷ 44 ∷ 102 ∷ 44 ∷ 115 ∷ 44 ∷ 114 ∷ 44 ∷ 109 ∷ 111 ∷ 100 ∷ 101 ∷ CR ∷ LF ∷ []

-- record 0, for the entry: Q after the period, and the entry flow
abbrev pub entry_record : ℕ → List ℕ → List ℕ → List ℕ
entry_record k state sheet = k ∷ 0 ∷ entry_queue state ∷ flow_in sheet 0 ∷ 0 ∷ 0 ∷ 0 ∷ []

-- the record of a cell: its count after the period, f, s, r and the mode
abbrev pub cell_record : ℕ → ℕ → List ℕ → List ℕ → ℕ → List ℕ
cell_record k n state sheet i =
    k ∷ (i + 1) ∷ count_at state i ∷ flow_in sheet (i + 1) ∷ off_flow_in n sheet i ∷ on_flow_in n sheet i ∷ mode_in n sheet i ∷ []

-- the lines of period k of n cells, from the state after it and its sheet
unfoldable pub period_text : ℕ → ℕ → List ℕ → List ℕ → List ℕ
period_text k n state sheet = line_text (entry_record k state sheet) ++ text_of (build n (cell_record k n state sheet))

-- the line that ends the program with a refusal: period being tried, place, number, file, 0, 0, 2
abbrev pub stop_record : Stop → List ℕ
stop_record stop = stop.period ∷ stop.place ∷ stop.number ∷ stop.file ∷ 0 ∷ 0 ∷ 2 ∷ []

unfoldable pub stop_text : Stop → List ℕ
stop_text stop = line_text (stop_record stop)

-- the most bytes of a line: seven numbers of at most 20 digits, each with a comma, and its end
abbrev pub line_room : ℕ
line_room = 149

-- a line at the start of an output, where that has room for the longest
unfoldable pub line_written : List ℕ → List ℕ → Result ℕ Refusal
line_written out text = pick (leb line_room (length out)) (Ok (length text)) no_room

unfoldable pub after_line : List ℕ → List ℕ → List ℕ
after_line out text = pick (leb line_room (length out)) (sets out 0 text) out
