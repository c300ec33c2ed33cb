-- Rules, "The text and the program": `cells.csv` and `state.csv`, read piece after piece into a list, and what they come to.
use Rattle.std.specs.Prelude.{ℕ, ◌+◌, Bool, List, [], ◌∷◌, ltb, leb, eqb, length, set, Result, Ok, Err}
use Rattle.whole.specs.Search.{pick, within}
use Rattle.refusals.specs.declared.Refusal.TheVariants.{Length}
use Rattle.refusals.specs.Checks.{Answer, answer}
use Rattle.layout.specs.Layout.{MOST}
use Rattle.layout.specs.Corridor.{Corridor}
use Rattle.text_digits.specs.Lines.{CR}
use Rattle.text_scans.specs.Scans.{begin, feed, untouched}
use Rattle.text_scans.specs.declared.Scan.{Scan}
use Rattle.text_scans.specs.declared.Step.{Step}
use Rattle.text_scans.specs.declared.Step.TheVariants.{More, Field, Complete, Breaks}
use Rattle.accept_rows.specs.Acceptance.{state_checks}
use Rattle.program_files.specs.Stops.{broken, refused_in}
use Rattle.program_files.specs.declared.Reading.{Reading}
use Rattle.program_files.specs.declared.Unread.{Unread}
use Rattle.program_files.specs.declared.Unread.TheVariants.{Broken, Lost}
use Rattle.program_files.specs.declared.Stop.{Stop}

-- a file that is being read, one that is read to its end, and what the program does then: it goes on with so many records, or ends
abbrev pub Standing : Type 0
Standing = Result Reading Unread

abbrev pub File : Type 0
File = Result ℕ Unread

abbrev pub Found : Type 0
Found = Result ℕ Stop

-- one more: counted to the largest 64-bit number and no further
unfoldable pub counted : ℕ → ℕ
counted n = pick (ltb n 18446744073709551615) (n + 1) n

-- the next index of a list with so much room: past the end nothing is stored
unfoldable pub next_index : ℕ → ℕ → ℕ
next_index room index = pick (ltb index room) (index + 1) index

-- so many records are complete, the next number goes to this index, and the reading stands here
abbrev pub standing : ℕ → ℕ → Scan → Standing
standing n index scan = Ok (record { records = n; index = index; scan = scan })

-- what one byte of the file does: a number goes to the list's next index
unfoldable pub file_of : Step → ℕ → ℕ → List ℕ → (Standing → List ℕ → Standing × List ℕ) → Standing × List ℕ
file_of (More next) n index list on = on (standing n index next) list
file_of (Field field number next) n index list on = on (standing n (next_index (length list) index) next) (set list index number)
file_of Complete n index list on = on (standing (counted n) index begin) list
file_of Breaks n index list on = on (Err (Broken (counted n))) list

-- a piece of the file, from where the reading stands
unfoldable pub file_on : ℕ → Standing → List ℕ → List ℕ → Standing × List ℕ
file_on fields so list [] = (so, list)
file_on fields (Ok so) list (byte ∷ rest) = file_of (feed so.scan byte fields) so.records so.index list (λ so then. file_on fields so then rest)
file_on fields (Err unread) list (byte ∷ rest) = (Err unread, list)

-- the file ends: after a last field, as CR LF would end the record
unfoldable pub end_of : Step → Bool → ℕ → ℕ → List ℕ → File × List ℕ
end_of (More next) between n index list = (pick between (Ok n) (Err (Broken (counted n))), list)
end_of (Field field number next) between n index list = (Ok (counted n), set list index number)
end_of Complete between n index list = (pick between (Ok n) (Err (Broken (counted n))), list)
end_of Breaks between n index list = (pick between (Ok n) (Err (Broken (counted n))), list)

unfoldable pub file_end : ℕ → Standing → List ℕ → File × List ℕ
file_end fields (Ok so) list = end_of (feed so.scan CR fields) (untouched so.scan) so.records so.index list
file_end fields (Err unread) list = (Err unread, list)

-- The cells: 12 for any of their records, then 1 on N.
unfoldable pub cells_found : File → Found
cells_found (Err Lost) = Err (broken 0 0 1)
cells_found (Err (Broken place)) = Err (broken 0 place 1)
cells_found (Ok n) = pick (within 1 MOST n) (Ok n) (Err (refused_in 0 Length))

-- The state: its one record missing has the place it would have, one after it its own; then 2 to 5.
unfoldable pub accepted_then : Answer → Found
accepted_then (Ok done) = Ok 1
accepted_then (Err refusal) = Err (refused_in 0 refusal)

unfoldable pub state_found : File → Corridor → Found
state_found (Err Lost) c = Err (broken 0 0 2)
state_found (Err (Broken place)) c = Err (broken 0 (pick (leb place 1) 1 2) 2)
state_found (Ok n) c = pick (eqb n 0) (Err (broken 0 1 2)) (pick (eqb n 1) (accepted_then (answer (state_checks c))) (Err (broken 0 2 2)))

-- The demand: it is missing before the first period, or can't be read on while period k is tried.
abbrev pub demand_lost : ℕ → Stop
demand_lost k = broken k 0 3
