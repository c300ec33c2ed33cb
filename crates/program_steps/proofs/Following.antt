-- The demand followed turn after turn, as it is defined byte after byte. Assumes nothing.
use Prim.Native.Nat.{ℕ, zero, suc, ◌+◌, ◌-◌, ◌≤◌, ◌<◌}
use mathlib.Core.Path.{◌≡◌, refl, sym, ap, ◌∙◌}
use mathlib.Core.Bool.{Bool, true, false}
use mathlib.Core.List.{List, [], ◌∷◌, ◌++◌, append-nil, append_assoc}
use native.Mathlib.Omega.{arith}
use borrow.Author.Tests.{le-leb}
use lib.Dec.{leb}
use lib.ListN.{length, set, drop, length-append, length-drop, drop_of_length-le}
use lib.Seq.{sets, drop-drop}
use Rattle.refusals.specs.declared.Refusal.{Refusal}
use Rattle.std.specs.Prelude.{Ok, Err, Result}
use Rattle.refusals.specs.Checks.{Answer}
use Rattle.whole.specs.Search.{pick}
use Rattle.layout.specs.Layout.{demand_length}
use Rattle.layout.specs.Corridor.{Corridor, cells_of}
use Rattle.text_digits.proofs.Stores.{stores_after}
use Rattle.text_scans.specs.Scans.{begin, feed}
use Rattle.text_scans.specs.declared.Scan.{Scan}
use Rattle.text_scans.specs.declared.Step.{Step}
use Rattle.text_scans.specs.declared.Step.TheVariants.{More, Field, Complete, Breaks}
use Rattle.text_records.specs.Reads.{read_from, read_on, row_from, row_on}
use Rattle.text_records.specs.declared.Read.{Read}
use Rattle.text_laws.proofs.Pieces.{reaches_on}
use Rattle.period.specs.Sharing.{Sharing}
use Rattle.period.specs.Period.{sheet_of, corridor_after}
use Rattle.period.specs.Fair.{Fair}
use Rattle.program_files.specs.Stops.{broken, refused_in}
use Rattle.program_files.specs.Files.{counted}
use Rattle.program_steps.specs.Lines.{stop_text}
use Rattle.program_steps.specs.Turns.{Did, reads, breaks, refuses, passes, did_row, did, did_text, when_passed, lines_of, demand_answer}
use Rattle.program_steps.specs.Demand.{later, over, Followed, silent, stopped, after, tried, follow_of, lines_room, follow, run_of, Leaves}
use Rattle.program_steps.specs.declared.Run.{Run}
use Rattle.program_steps.specs.declared.Run.TheVariants.{On, Over}
use Rattle.program_steps.specs.declared.Turn.{Turn}
use Rattle.program_steps.specs.Private.{turn_of, Turned, Ready, ReadyAt}
use Rattle.program_steps.proofs.Turning.{ready_again}

after_after : (a b : List ℕ) (f : Followed) → after a (after b f) ≡ after (a ++ b) f
after_after a b f = ap (λ (t : List ℕ). record { how = f.how; row = f.row; corridor = f.corridor; sheet = f.sheet; text = t }) (sym (append_assoc a b f.text))

module _ (way : Sharing) where
  abbrev fields : Corridor → ℕ
  fields c = demand_length (cells_of c)

  -- on with what is left of the bytes, where another period's lines have room
  abbrev pub roomy : ℕ → ℕ → Scan → List ℕ → Corridor → List ℕ → List ℕ → Followed
  roomy room k scan row c sheet bytes =
      pick (leb (lines_room (cells_of c)) room) (follow way room k scan row c sheet bytes) (silent (later k scan (length bytes)) row c sheet)

  -- what following comes to, by what reading on in the bytes does
  unfoldable follow_did : ℕ → ℕ → List ℕ → Corridor → List ℕ → ℕ → List ℕ → Did → Followed
  follow_did room k row c sheet at bytes (reads scan) = silent (later k scan 0) row c sheet
  follow_did room k row c sheet at bytes breaks = stopped (broken k k 3) row c sheet
  follow_did room k row c sheet at bytes (refuses why) = stopped (refused_in k why) row c sheet
  follow_did room k row c sheet at bytes (passes next) =
      after (lines_of way k c row)
      (roomy (room - length (lines_of way k c row)) (counted k) begin row (corridor_after way c row) (sheet_of way c row) (drop (next - at) bytes))

  -- a complete record
  row_follows : (room k : ℕ) (row : List ℕ) (c : Corridor) (sheet : List ℕ) (at byte : ℕ) (rest : List ℕ) (a : Answer)
      → tried a k row c sheet
      (after (lines_of way k c row)
      (roomy (room - length (lines_of way k c row)) (counted k) begin row (corridor_after way c row) (sheet_of way c row) rest))
      ≡ follow_did room k row c sheet at (byte ∷ rest) (did_row a (at + 1))
  unfolding tried follow_did did_row
  row_follows room k row c sheet at byte rest (Ok done) = let one : at + 1 - at ≡ suc zero = omega arith in rw one
  row_follows room k row c sheet at byte rest (Err why) = refl

  turn_follows : (room k at : ℕ) (scan : Scan) (row : List ℕ) (c : Corridor) (sheet bytes : List ℕ) → follow way room k scan row c sheet bytes
      ≡ follow_did room k (row_on (fields c) scan row bytes) c sheet at bytes (did (read_on (fields c) at scan bytes) (demand_answer c (row_on (fields c) scan row bytes)))
  unfolding follow follow_of follow_did did did_row read_on read_from row_on row_from
  turn_follows room k at scan row c sheet [] = refl
  turn_follows room k at scan row c sheet (byte ∷ rest) = by (feed scan byte (fields c)) (λ next now. turn_follows room k (at + 1) next now c sheet rest)
    where
      on : (found : Read) (a : Answer) (now : List ℕ) → ((next : ℕ) → found ≡ Read.Record next → at + 1 < next)
          → follow_did room k now c sheet (at + 1) rest (did found a) ≡ follow_did room k now c sheet at (byte ∷ rest) (did found a)
      on (Read.Record next) (Ok done) now past = let one_less : next - at ≡ suc (next - (at + 1)) = omega (arith, past next refl) in rw one_less
      on (Read.Record next) (Err why) now past = refl
      on (Read.Part s) a now past = refl
      on Read.Broken a now past = refl

      by : (step : Step)
          → ((next : Scan) (now : List ℕ) → follow way room k next now c sheet rest
          ≡ follow_did room k (row_on (fields c) next now rest) c sheet (at + 1) rest (did (read_on (fields c) (at + 1) next rest) (demand_answer c (row_on (fields c) next now rest))))
          → follow_of step k row c sheet (λ next now. follow way room k next now c sheet rest)
          (tried (demand_answer c row) k row c sheet
          (after (lines_of way k c row)
          (roomy (room - length (lines_of way k c row)) (counted k) begin row (corridor_after way c row) (sheet_of way c row) rest)))
          ≡ follow_did room k (row_from step (λ next now. row_on (fields c) next now rest) row) c sheet at (byte ∷ rest)
          (did (read_from step (λ next. read_on (fields c) (at + 1) next rest) (at + 1)) (demand_answer c (row_from step (λ next now. row_on (fields c) next now rest) row)))
      by (More next) same = same next row ∙ on (read_on (fields c) (at + 1) next rest) _ (row_on (fields c) next row rest) (reaches_on (fields c) (at + 1) next rest)
      by (Field f v next) same = same next (set row f v) ∙ on (read_on (fields c) (at + 1) next rest) _ (row_on (fields c) next (set row f v) rest) (reaches_on (fields c) (at + 1) next rest)
      by Complete same = row_follows room k row c sheet at byte rest (demand_answer c row)
      by Breaks same = refl

  module _ (chunk : List ℕ) (k₀ : ℕ) (scan₀ : Scan) (row₀ : List ℕ) (c₀ : Corridor) (sheet₀ out₀ : List ℕ) where
    abbrev whole : Followed
    whole = follow way (length out₀) k₀ scan₀ row₀ c₀ sheet₀ chunk

    -- following stands at an index of the chunk, in period k, with the lines so far at the start of the output
    pub record Following (k : ℕ) (scan : Scan) (row : List ℕ) (c : Corridor) (sheet out : List ℕ) (from at : ℕ) : Type 0 where
      pub ready : Ready c row sheet
      pub lines : List ℕ
      pub goes : whole ≡ after lines (roomy (length out₀ - at) k scan row c sheet (drop from chunk))
      pub so_many : at ≡ length lines
      pub stores : out ≡ sets out₀ 0 lines

    pub begins : ReadyAt c₀ row₀ sheet₀ out₀ 0 → Following k₀ scan₀ row₀ c₀ sheet₀ out₀ 0 0
    begins at_start_lem =
        let all : length out₀ - 0 ≡ length out₀ = omega arith in
        let has : lines_room (cells_of c₀) ≤ length out₀ = omega (arith, at_start_lem.room) in
        record { ready = at_start_lem.ready; lines = []; goes = rw (all, le-leb (lines_room (cells_of c₀)) (length out₀) has); so_many = refl; stores = refl }

    leaves : (lines : List ℕ) (rest : Followed) {run : Result Run Refusal} {out : List ℕ} → whole ≡ after lines rest → run ≡ run_of rest.how (length chunk) (length lines + length rest.text) → out ≡ sets out₀ 0 (lines ++ rest.text)
        → Leaves whole (length chunk) out₀ run rest.row rest.corridor rest.sheet out
    leaves lines rest e answered writes =
        rw e (record { answered = rw (length-append lines rest.text) answered; leaves_row = refl; leaves_corridor = refl; leaves_sheet = refl; writes = writes })

    -- the output has no room for another period's lines
    pub full : {k : ℕ} {scan : Scan} {row : List ℕ} {c : Corridor} {sheet out : List ℕ} {from at : ℕ} → Following k scan row c sheet out from at → leb (lines_room (cells_of c)) (length out₀ - at) ≡ false → from < length chunk
        → Leaves whole (length chunk) out₀ (Ok (On from k scan at)) row c sheet out
    unfolding run_of
    full {k} {scan} {row} {c} {sheet} {out} {from} {at} so none inside =
        let left : length chunk - length (drop from chunk) ≡ from = omega (arith, length-drop from chunk) in
        let here : at ≡ length so.lines + 0 = omega (arith, so.so_many) in
        leaves so.lines (silent (later k scan (length (drop from chunk))) row c sheet) (rw none at so.goes) (rw (left, sym here) refl) (rw (append-nil so.lines) so.stores)

    -- the chunk is used up
    pub used_up : {k : ℕ} {scan : Scan} {row : List ℕ} {c : Corridor} {sheet out : List ℕ} {from at : ℕ} → Following k scan row c sheet out from at → length chunk ≤ from
        → Leaves whole (length chunk) out₀ (Ok (On (length chunk) k scan at)) row c sheet out
    unfolding run_of follow
    used_up {k} {scan} {row} {c} {sheet} {out} {from} {at} so past =
        let none : drop from chunk ≡ [] = drop_of_length-le chunk past in
        let here : at ≡ length so.lines + 0 = omega (arith, so.so_many) in
        let all : length chunk - 0 ≡ length chunk = omega arith in
        leaves so.lines (silent (later k scan 0) row c sheet) (so.goes ∙ rw none (ap (after so.lines) (by (leb (lines_room (cells_of c)) (length out₀ - at))))) (rw (sym here, all) refl) (rw (append-nil so.lines) so.stores)
      where
        by : (has : Bool) → pick has (follow way (length out₀ - at) k scan row c sheet []) (silent (later k scan 0) row c sheet) ≡ silent (later k scan 0) row c sheet
        by true = refl
        by false = refl

    stores_on : {k : ℕ} {scan : Scan} {row : List ℕ} {c : Corridor} {sheet out out_left : List ℕ} {from at : ℕ} (so : Following k scan row c sheet out from at) (more : List ℕ) → out_left ≡ sets out at more
        → out_left ≡ sets out₀ 0 (so.lines ++ more)
    stores_on {at = at} so more w =
        let here : at ≡ 0 + length so.lines = omega (arith, so.so_many) in
        w ∙ rw (so.stores, here) (sym (stores_after out₀ 0 so.lines more))

    -- one turn
    module _ {k : ℕ} {scan : Scan} {row : List ℕ} {c : Corridor} {sheet out : List ℕ} {from at : ℕ} (so : Following k scan row c sheet out from at) (has : leb (lines_room (cells_of c)) (length out₀ - at) ≡ true) where
      abbrev row' : List ℕ
      row' = row_on (fields c) scan row (drop from chunk)

      abbrev turned : Did
      turned = did (read_on (fields c) from scan (drop from chunk)) (demand_answer c row')

      goes_on : whole ≡ after so.lines (follow_did (length out₀ - at) k row' c sheet from (drop from chunk) turned)
      goes_on = rw has at so.goes ∙ ap (after so.lines) (turn_follows (length out₀ - at) k from scan row c sheet (drop from chunk))

      module _ {turn : Turn} {row'' : List ℕ} {corridor_left : Corridor} {sheet_left out_left : List ℕ} (read : row'' ≡ row_on (length row) scan row (drop from chunk)) (same : length row'' ≡ length row)
          (t : Turned way (did (read_on (length row) from scan (drop from chunk)) (demand_answer c row'')) k c row'' sheet out at turn corridor_left sheet_left out_left) where
        same_row : row'' ≡ row'
        same_row = rw so.ready.row_fits at read

        turn_taken : Turned way turned k c row' sheet out at turn corridor_left sheet_left out_left
        turn_taken = rw (same_row, so.ready.row_fits) at t

        pub part_left : {next : Scan} {to : ℕ} → turn ≡ Turn.Part next to
            → Leaves whole (length chunk) out₀ (Ok (On (length chunk) k next to)) row'' corridor_left sheet_left out_left
        unfolding follow_did did_text turn_of when_passed run_of
        part_left {next} {to} e = rw same_row (by turned goes_on turn_taken.answered turn_taken.leaves_corridor turn_taken.leaves_sheet turn_taken.writes)
          where
            by : (d : Did) → whole ≡ after so.lines (follow_did (length out₀ - at) k row' c sheet from (drop from chunk) d) → turn ≡ turn_of d (at + length (did_text k (lines_of way k c row') d))
                → corridor_left ≡ when_passed d (corridor_after way c row') c → sheet_left ≡ when_passed d (sheet_of way c row') sheet → out_left ≡ sets out at (did_text k (lines_of way k c row') d)
                → Leaves whole (length chunk) out₀ (Ok (On (length chunk) k next to)) row' corridor_left sheet_left out_left
            by (reads s) f a es eh w =
                let same_scan : s ≡ next = cc in
                let to_is : to ≡ at + 0 = cc in
                let here : to ≡ length so.lines + 0 = omega (arith, so.so_many, to_is) in
                let all : length chunk - 0 ≡ length chunk = omega arith in
                rw (es, eh, w, sym same_scan)
                (leaves so.lines (silent (later k s 0) row' c sheet) f (rw (sym here, all) refl) (rw (append-nil so.lines) so.stores))
            by breaks f a es eh w = absurd (let z : ◌≡◌ {A = ℕ} 0 1 = cc in omega arith)
            by (refuses why) f a es eh w = absurd (let z : ◌≡◌ {A = ℕ} 0 1 = cc in omega arith)
            by (passes n) f a es eh w = absurd (let z : ◌≡◌ {A = ℕ} 0 1 = cc in omega arith)

        pub over_left : {to : ℕ} → turn ≡ Turn.Over to
            → Leaves whole (length chunk) out₀ (Ok (Over to)) row'' corridor_left sheet_left out_left
        unfolding follow_did did_text turn_of when_passed run_of
        over_left {to} e = rw same_row (by turned goes_on turn_taken.answered turn_taken.leaves_corridor turn_taken.leaves_sheet turn_taken.writes)
          where
            ended : (text : List ℕ) → whole ≡ after so.lines (record { how = over; row = row'; corridor = c; sheet = sheet; text = text }) → to ≡ at + length text → out_left ≡ sets out at text
                → Leaves whole (length chunk) out₀ (Ok (Over to)) row' c sheet out_left
            ended text f to_is w =
                let here : to ≡ length so.lines + length text = omega (arith, so.so_many, to_is) in
                leaves so.lines (record { how = over; row = row'; corridor = c; sheet = sheet; text = text }) f (rw here refl)
                (stores_on so text w)

            by : (d : Did) → whole ≡ after so.lines (follow_did (length out₀ - at) k row' c sheet from (drop from chunk) d) → turn ≡ turn_of d (at + length (did_text k (lines_of way k c row') d))
                → corridor_left ≡ when_passed d (corridor_after way c row') c → sheet_left ≡ when_passed d (sheet_of way c row') sheet → out_left ≡ sets out at (did_text k (lines_of way k c row') d)
                → Leaves whole (length chunk) out₀ (Ok (Over to)) row' corridor_left sheet_left out_left
            by (reads s) f a es eh w = absurd (let z : ◌≡◌ {A = ℕ} 0 1 = cc in omega arith)
            by breaks f a es eh w = let to_is : to ≡ at + length (stop_text (broken k k 3)) = cc in rw (es, eh) (ended (stop_text (broken k k 3)) f to_is w)
            by (refuses why) f a es eh w = let to_is : to ≡ at + length (stop_text (refused_in k why)) = cc in rw (es, eh) (ended (stop_text (refused_in k why)) f to_is w)
            by (passes n) f a es eh w = absurd (let z : ◌≡◌ {A = ℕ} 0 1 = cc in omega arith)

        pub period_followed : Fair way → {next to : ℕ} → turn ≡ Turn.Period next to → from < next
            → Following (counted k) begin row'' corridor_left sheet_left out_left next to
        unfolding follow_did did_text turn_of when_passed
        period_followed fair {next} {to} e past = rw same_row (by turned goes_on turn_taken.answered turn_taken.leaves_corridor turn_taken.leaves_sheet turn_taken.writes)
          where
            by : (d : Did) → whole ≡ after so.lines (follow_did (length out₀ - at) k row' c sheet from (drop from chunk) d) → turn ≡ turn_of d (at + length (did_text k (lines_of way k c row') d))
                → corridor_left ≡ when_passed d (corridor_after way c row') c → sheet_left ≡ when_passed d (sheet_of way c row') sheet → out_left ≡ sets out at (did_text k (lines_of way k c row') d)
                → Following (counted k) begin row' corridor_left sheet_left out_left next to
            by (reads s) f a es eh w = absurd (let z : ◌≡◌ {A = ℕ} 0 1 = cc in omega arith)
            by breaks f a es eh w = absurd (let z : ◌≡◌ {A = ℕ} 0 1 = cc in omega arith)
            by (refuses why) f a es eh w = absurd (let z : ◌≡◌ {A = ℕ} 0 1 = cc in omega arith)
            by (passes n) f a es eh w =
                let same_next : n ≡ next = cc in
                let more = lines_of way k c row' in
                let to_is : to ≡ at + length more = cc in
                let less : length out₀ - at - length more ≡ length out₀ - to = omega (arith, to_is) in
                let further : from + (next - from) ≡ next = omega (arith, past) in
                let left : drop (n - from) (drop from chunk) ≡ drop next chunk = rw same_next (drop-drop (next - from) from chunk ∙ ap (λ (m : ℕ). drop m chunk) further) in
                let on : roomy (length out₀ - at - length more) (counted k) begin row' (corridor_after way c row') (sheet_of way c row') (drop (n - from) (drop from chunk))
                ≡ roomy (length out₀ - to) (counted k) begin row' corridor_left sheet_left (drop next chunk) = rw (es, eh, less, left) in
                record {
                  ready = rw same_row at (ready_again so.ready same fair _ t);
                  lines = so.lines ++ more;
                  goes = f ∙ after_after so.lines more _ ∙ ap (after (so.lines ++ more)) on;
                  so_many = omega (arith, so.so_many, to_is, length-append so.lines more);
                  stores = stores_on so more w;
                }
