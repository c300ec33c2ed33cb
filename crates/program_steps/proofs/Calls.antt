-- The calls of `follow`, `end` and the two lines, whatever their lists. Assumes nothing.
use Prim.Native.Nat.{ℕ, ◌+◌, ◌-◌, ◌/◌}
use mathlib.Core.Path.{◌≡◌, refl, sym, ap, ◌∙◌}
use mathlib.Core.Bool.{Bool, true, false, ◌&&◌}
use mathlib.Core.List.{List}
use native.Mathlib.Omega.{arith}
use borrow.Author.Tests.{leb-true, leb-false, eqb-true, lt-ltb, le-ltb}
use lib.Dec.{ltb, leb, eqb}
use lib.ListN.{length}
use Rattle.std.specs.Prelude.{Ok, Err}
use Rattle.whole.proofs.Tests.{both_hold}
use Rattle.refusals.specs.declared.Refusal.{Refusal}
use Rattle.refusals.specs.declared.Refusal.TheVariants.{Length}
use Rattle.refusals.specs.Checks.{answer, lengths, Answer, accepted}
use Rattle.refusals.proofs.Answers.{length_fits_too, length_fails, accepted_passes}
use Rattle.layout.specs.Layout.{demand_length}
use Rattle.layout.specs.Sheet.{sheet_length}
use Rattle.layout.specs.Corridor.{Corridor, cells_of}
use Rattle.text_scans.specs.Scans.{ended}
use Rattle.text_scans.specs.declared.Scan.{Scan}
use Rattle.text_records.specs.Reads.{row_at_end}
use Rattle.accept_rows.specs.Acceptance.{state_lengths_fit, state_numbers, state_checks}
use Rattle.period.specs.Sharing.{Sharing}
use Rattle.program_steps.specs.Lines.{line_room}
use Rattle.program_steps.specs.Turns.{Did, reads, breaks, refuses, passes, did, last_read, did_text, lines_of, demand_answer}
use Rattle.program_steps.specs.Demand.{Followed, lines_room, follow_end, follow_lists_fit, follow_checks, if_accepted, run_of, Leaves}
use Rattle.program_steps.specs.declared.Run.{Run}
use Rattle.program_steps.specs.declared.Turn.{Turn}
use Rattle.program_steps.specs.Private.{ReadyAt, turn_of, Turned, written_to}

-- a line at the start of an output

-- as many whole lines as the room has, against a period's n + 1
pub lines_told : (n room : ℕ) → ltb n (room / line_room) ≡ leb (lines_room n) room
lines_told n room = by (leb (lines_room n) room) refl
  where
    by : (fits : Bool) → leb (lines_room n) room ≡ fits → ltb n (room / line_room) ≡ fits
    by true e = lt-ltb n (room / line_room) (omega (arith, leb-true (lines_room n) room e))
    by false e = le-ltb n (room / line_room) (omega (arith, leb-false (lines_room n) room e))

-- the lists of a run

pub lists_told : (n : ℕ) (row sheet out : List ℕ) {fields numbers : ℕ} {room : Bool} → fields ≡ demand_length n → numbers ≡ sheet_length n → room ≡ leb (lines_room n) (length out - 0)
    → ((eqb (length row) fields && eqb (length sheet) numbers) && room) ≡ follow_lists_fit n row sheet out
unfolding follow_lists_fit
lists_told n row sheet out of_row of-sheet has = let all : length out - 0 ≡ length out = omega arith in rw (has, of_row, of-sheet, all)

-- r tells whether the row, the sheet and the output fit
pub lists_refused : (c : Corridor) (row sheet out : List ℕ) {r : Bool} → r ≡ follow_lists_fit (cells_of c) row sheet out → r ≡ false
    → Err Length ≡ answer (follow_checks c row sheet out)
unfolding follow_checks
lists_refused c row sheet out e fails = length_fails (state_numbers c) (state_lengths_fit c) (sym e ∙ fails)

pub lists_left : (c : Corridor) (row sheet out : List ℕ) {r : Bool} {a : Answer} → r ≡ follow_lists_fit (cells_of c) row sheet out → r ≡ true
    → a ≡ answer (state_checks c) → a ≡ answer (follow_checks c row sheet out)
unfolding follow_checks
lists_left c row sheet out e fit found = found ∙ sym (length_fits_too (state_numbers c) (state_lengths_fit c) (sym e ∙ fit))

pub lists_ready : (c : Corridor) (row sheet out : List ℕ) → answer (follow_checks c row sheet out) ≡ accepted → ReadyAt c row sheet out 0
unfolding follow_checks follow_lists_fit
lists_ready c row sheet out e =
    let of_row = eqb (length row) (demand_length (cells_of c)) in
    let of-sheet = eqb (length sheet) (sheet_length (cells_of c)) in
    let of-out = leb (lines_room (cells_of c)) (length out) in
    let passed = accepted_passes (lengths (state_lengths_fit c && follow_lists_fit (cells_of c) row sheet out)) (answer (state_numbers c)) e in
    let all = both_hold (state_lengths_fit c) (of_row && of-sheet && of-out) (passed.0 0 (omega arith)) in
    let lists = both_hold (of_row && of-sheet) of-out all.1 in
    let its = both_hold of_row of-sheet lists.0 in
    record {
      ready =
          record {
            fits = all.0;
            row_fits = eqb-true (length row) (demand_length (cells_of c)) its.0;
            sheet_fits = eqb-true (length sheet) (sheet_length (cells_of c)) its.1;
            accepted = passed.1;
          };
      room = omega (arith, leb-true (lines_room (cells_of c)) (length out) lists.1);
    }

module _ {a : Answer} (row : List ℕ) (c : Corridor) (sheet : List ℕ) (f : Followed) {given : ℕ} {out : List ℕ} where
  pub refused_leaves : {refusal : Refusal} → a ≡ Err refusal → Leaves (if_accepted a row c sheet f) given out (Err refusal) row c sheet out
  unfolding run_of
  refused_leaves e = rw e (record { answered = refl; leaves_row = refl; leaves_corridor = refl; leaves_sheet = refl; writes = refl })

-- the demand ends

pub end_leaves : (way : Sharing) (k : ℕ) (scan : Scan) (row : List ℕ) {c : Corridor} {sheet out : List ℕ} {turn : Turn} {row_left : List ℕ} {corridor_left : Corridor} {sheet_left out_left : List ℕ} {to : ℕ}
    → length row ≡ demand_length (cells_of c)
    → row_left ≡ row_at_end (length row) scan row
    → Turned way (did (last_read (ended scan (length row))) (demand_answer c row_left)) k c row_left sheet out 0 turn corridor_left sheet_left out_left
    → to ≡ length (did_text k (lines_of way k c row_left) (did (last_read (ended scan (length row))) (demand_answer c row_left)))
    → Leaves (follow_end way k scan row c sheet) 0 out (Ok (Run.Over to)) row_left corridor_left sheet_left out_left
unfolding follow_end run_of
end_leaves way k scan row fits read t e =
    rw (sym fits, sym read)
    (record { answered = ap (λ (m : ℕ). Ok (Run.Over m)) e; leaves_row = refl; leaves_corridor = t.leaves_corridor; leaves_sheet = t.leaves_sheet; writes = t.writes })

-- where a turn ends
pub turn_position : (d : Did) (n : ℕ) {turn : Turn} → turn ≡ turn_of d (0 + n) → written_to turn ≡ n
unfolding turn_of
turn_position d n e = ap written_to e ∙ by d
  where
    by : (d : Did) → written_to (turn_of d (0 + n)) ≡ n
    by (reads scan) = omega arith
    by breaks = omega arith
    by (refuses refusal) = omega arith
    by (passes next) = omega arith
