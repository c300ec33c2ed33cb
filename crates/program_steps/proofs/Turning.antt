-- A turn: from the answer of a demand row to what is written and left. Assumes nothing.
use Prim.Native.Nat.{ℕ, ◌+◌, ◌<◌}
use mathlib.Core.Path.{◌≡◌, refl, sym, ap, ◌∙◌}
use mathlib.Core.List.{List, []}
use native.Mathlib.Omega.{arith}
use lib.ListN.{length}
use Rattle.std.specs.Prelude.{Ok, Err}
use Rattle.refusals.specs.Checks.{Answer, accepted}
use Rattle.refusals.specs.declared.Refusal.{Refusal}
use Rattle.layout.specs.Corridor.{Corridor, corridor_of, cells_of}
use Rattle.text_scans.specs.declared.Scan.{Scan}
use Rattle.text_records.specs.Reads.{read_on}
use Rattle.text_records.specs.declared.Read.{Read}
use Rattle.text_records.specs.declared.Read.TheVariants.{Record, Broken}
use Rattle.text_laws.proofs.Pieces.{reaches_on}
use Rattle.period.specs.Sharing.{Sharing}
use Rattle.period.specs.Period.{sheet_of, state_after, RowDone, corridor_after}
use Rattle.period.specs.Fair.{Fair}
use Rattle.period.proofs.Reading.{after_length, of_length}
use Rattle.period.proofs.Again.{state_stays_accepted}
use Rattle.period.proofs.Rows.{same_length_fits}
use Rattle.program_files.specs.Stops.{broken, refused_in}
use Rattle.program_files.specs.declared.Stop.{Stop}
use Rattle.program_steps.specs.Lines.{period_text, stop_text}
use Rattle.program_steps.specs.Turns.{Did, breaks, did_row, did, did_text, when_passed, lines_of, demand_answer}
use Rattle.program_steps.specs.declared.Turn.{Turn}
use Rattle.program_steps.specs.declared.Turn.TheVariants.{Period, Over}
use Rattle.program_steps.specs.Private.{Put, turn_of, Turned, Ready}

module _ (way : Sharing) (k : ℕ) (c : Corridor) (row sheet out : List ℕ) (at : ℕ) {end : ℕ} {out_left : List ℕ} where
  -- the row is accepted, and its period is run
  pub row_runs : (next : ℕ) {n : ℕ} {state_left sheet_left : List ℕ} → demand_answer c row ≡ accepted → n ≡ cells_of c → RowDone way c row state_left sheet_left
      → Put (period_text k n state_left sheet_left) out at end out_left
      → Turned way (did_row (demand_answer c row) next) k c row sheet out at (Period next end) (corridor_of c.table state_left) sheet_left out_left
  unfolding did_row did_text turn_of when_passed
  row_runs next passed same done put =
      let written = rw (same, done.leaves_state, done.leaves_sheet) at put in
      rw passed
      (record {
        answered = ap (λ (m : ℕ). Period next m) written.ends;
        leaves_corridor = ap (corridor_of c.table) done.leaves_state;
        leaves_sheet = done.leaves_sheet;
        writes = written.stores;
      })

  -- the row is refused
  pub row_stops : (next : ℕ) {refusal : Refusal} {stop : Stop} → demand_answer c row ≡ Err refusal → stop ≡ refused_in k refusal → Put (stop_text stop) out at end out_left
      → Turned way (did_row (demand_answer c row) next) k c row sheet out at (Over end) c sheet out_left
  unfolding did_row did_text turn_of when_passed
  row_stops next refused same put =
      let written = rw same at put in
      rw refused (record { answered = ap Over written.ends; leaves_corridor = refl; leaves_sheet = refl; writes = written.stores })

  -- a record that breaks
  pub break_stops : {stop : Stop} → stop ≡ broken k k 3 → Put (stop_text stop) out at end out_left
      → Turned way breaks k c row sheet out at (Over end) c sheet out_left
  unfolding did_text turn_of when_passed
  break_stops same put =
      let written = rw same at put in
      record { answered = ap Over written.ends; leaves_corridor = refl; leaves_sheet = refl; writes = written.stores }

-- nothing more is written
pub nothing_written : (way : Sharing) (d : Did) (k : ℕ) (c : Corridor) (row sheet out : List ℕ) (at : ℕ) {turn : Turn} → did_text k (lines_of way k c row) d ≡ [] → turn ≡ turn_of d at
    → when_passed d (corridor_after way c row) c ≡ c → when_passed d (sheet_of way c row) sheet ≡ sheet
    → Turned way d k c row sheet out at turn c sheet out
nothing_written way d k c row sheet out at none is same same' =
    let same_end : at + length (did_text k (lines_of way k c row) d) ≡ at = rw none (omega arith) in
    record { answered = rw same_end is; leaves_corridor = sym same; leaves_sheet = sym same'; writes = rw none }

-- after a turn the lists are ready for the next
module _ {c : Corridor} {row₀ row sheet : List ℕ} (ready : Ready c row₀ sheet) (same : length row ≡ length row₀) where
  pub still : {corridor_left : Corridor} {sheet_left : List ℕ} → corridor_left ≡ c → sheet_left ≡ sheet → Ready corridor_left row sheet_left
  still e f = rw (e, f) (record { fits = ready.fits; row_fits = same ∙ ready.row_fits; sheet_fits = ready.sheet_fits; accepted = ready.accepted })

  module _ {way : Sharing} (fair : Fair way) where
    pub moved : {corridor_left : Corridor} {sheet_left : List ℕ} → demand_answer c row ≡ accepted → corridor_left ≡ corridor_after way c row → sheet_left ≡ sheet_of way c row → Ready corridor_left row sheet_left
    moved passed e f =
        rw (e, f)
        (record {
          fits = same_length_fits c (state_after way c row) ready.fits (after_length way c row);
          row_fits = same ∙ ready.row_fits;
          sheet_fits = of_length way c row;
          accepted = state_stays_accepted way fair c row ready.accepted passed;
        })

    pub ready_again : (read : Read) {k at : ℕ} {turn : Turn} {corridor_left : Corridor} {sheet_left out out_left : List ℕ} → Turned way (did read (demand_answer c row)) k c row sheet out at turn corridor_left sheet_left out_left
        → Ready corridor_left row sheet_left
    unfolding did did_row when_passed
    ready_again read turned = by read (demand_answer c row) refl turned.leaves_corridor turned.leaves_sheet
      where
        by : (found : Read) (a : Answer) → demand_answer c row ≡ a → {corridor_left : Corridor} {sheet_left : List ℕ} → corridor_left ≡ when_passed (did found a) (corridor_after way c row) c
            → sheet_left ≡ when_passed (did found a) (sheet_of way c row) sheet → Ready corridor_left row sheet_left
        by (Read.Part scan) a is e f = still e f
        by Broken a is e f = still e f
        by (Record next) (Ok done) is e f = moved is e f
        by (Record next) (Err refusal) is e f = still e f

-- and a period's record ends after where its reading began
pub goes_onward : (fields from : ℕ) (scan : Scan) (bytes : List ℕ) (a : Answer) (at : ℕ) {turn : Turn} {next to : ℕ} → turn ≡ turn_of (did (read_on fields from scan bytes) a) at → turn ≡ Period next to → from < next
unfolding did did_row turn_of
goes_onward fields from scan bytes a at {next = next} {to = to} e is = by (read_on fields from scan bytes) a (reaches_on fields from scan bytes) (sym is ∙ e)
  where
    by : (found : Read) (b : Answer) → ((after : ℕ) → found ≡ Record after → from < after) → Period next to ≡ turn_of (did found b) at → from < next
    by (Read.Part s) b past e = absurd (let z : ◌≡◌ {A = ℕ} 0 1 = cc in omega arith)
    by Broken b past e = absurd (let z : ◌≡◌ {A = ℕ} 0 1 = cc in omega arith)
    by (Record n) (Ok done) past e = let same : next ≡ n = cc in omega (arith, past n refl, same)
    by (Record n) (Err refusal) past e = absurd (let z : ◌≡◌ {A = ℕ} 0 1 = cc in omega arith)
