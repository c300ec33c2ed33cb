-- What following the demand writes, in calls and chunks of any size, is what its records say. Assumes nothing.
use Prim.Native.Nat.{ℕ, zero, suc, ◌+◌, ◌-◌, ◌≤◌, ◌<◌}
use mathlib.Core.Path.{◌≡◌, refl, sym, ap, ◌∙◌}
use mathlib.Core.Bool.{Bool, true, false}
use mathlib.Core.List.{List, [], ◌∷◌, ◌++◌, append-nil, append_assoc}
use native.Mathlib.Omega.{arith}
use lib.Dec.{leb}
use lib.ListN.{length, set, drop, length-drop, length-append}
use Rattle.std.specs.Prelude.{Ok, Err}
use Rattle.whole.specs.Search.{pick}
use Rattle.refusals.specs.Checks.{answer, Answer}
use Rattle.layout.specs.Layout.{demand_length}
use Rattle.layout.specs.Corridor.{Corridor, cells_of}
use Rattle.text_scans.specs.Scans.{begin, feed, ended}
use Rattle.text_scans.specs.declared.Scan.{Scan}
use Rattle.text_scans.specs.declared.Step.{Step}
use Rattle.text_scans.specs.declared.Step.TheVariants.{More, Field, Complete, Breaks}
use Rattle.text_scans.specs.declared.End.{End}
use Rattle.text_scans.specs.declared.End.TheVariants.{Nothing, Last, Cut}
use Rattle.text_records.specs.Texts.{together}
use Rattle.text_records.specs.Reads.{row_at_end}
use Rattle.period.specs.Sharing.{Sharing}
use Rattle.period.specs.Period.{sheet_of, corridor_after}
use Rattle.program_files.specs.Files.{counted}
use Rattle.program_steps.specs.Turns.{did_row, did, last_read, did_text, lines_of, demand_answer}
use Rattle.program_steps.specs.Demand.{How, later, over, refused, Followed, silent, after, tried, follow_of, lines_room, follow, follow_end, follow_checks, if_accepted, follow_call, run_of}
use Rattle.program_steps.specs.Program.{last_record, records_from, records_on, periods_from, sheet_text}
use Rattle.program_steps.specs.Steps.{Follows, next_chunk, call, stop, end}
use Rattle.program_steps.specs.declared.Run.TheVariants.{On}
use Rattle.program_steps.proofs.Texts.{counted_on, counted_most}

-- at most so many bytes are left, and of those given each period has used up one; that the lists are not those of a run is found before
abbrev pub Within : ℕ → ℕ → ℕ → How → Type 0
Within k most given (later k' scan left) = (left ≤ most) × (k' + left ≤ k + given)
Within k most given over = Unit {0}
Within k most given (refused why) = ⊥

within_more : (k most given : ℕ) (how : How) → Within k most given how → Within k (suc most) given how
within_more k most given (later k' scan left) h = (omega (arith, h.0), h.1)
within_more k most given over h = tt
within_more k most given (refused why) h = h

within_read : (k most given : ℕ) (how : How) → Within k most given how → Within k most (suc given) how
within_read k most given (later k' scan left) h = (h.0, omega (arith, h.1))
within_read k most given over h = tt
within_read k most given (refused why) h = h

within_next : (k most given : ℕ) (how : How) → Within (counted k) most given how → Within k most (suc given) how
within_next k most given (later k' scan left) h = (h.0, omega (arith, h.1, counted_most k))
within_next k most given over h = tt
within_next k most given (refused why) h = h

module _ (way : Sharing) where
  abbrev fields : Corridor → ℕ
  fields c = demand_length (cells_of c)

  -- what is written later, where following goes on
  unfoldable onward : How → List ℕ → Corridor → List ℕ → List ℕ → List ℕ
  onward (later k scan left) row c bytes more = sheet_text way k c (records_on (fields c) scan row (drop (length bytes - left) bytes ++ more))
  onward over row c bytes more = []
  onward (refused why) row c bytes more = []

  byte_within : (room k : ℕ) (scan : Scan) (row : List ℕ) (c : Corridor) (sheet : List ℕ) (byte : ℕ) (rest : List ℕ)
      → ((room k : ℕ) (scan : Scan) (row : List ℕ) (c : Corridor) (sheet : List ℕ) → Within k (length rest) (length rest) (follow way room k scan row c sheet rest).how)
      → Within k (length rest) (suc (length rest)) (follow way room k scan row c sheet (byte ∷ rest)).how
  unfolding follow follow_of tried
  byte_within room k scan row c sheet byte rest on = by (feed scan byte (fields c)) (demand_answer c row) (leb (lines_room (cells_of c)) (room - length lines))
    where
      lines : List ℕ
      lines = lines_of way k c row

      next_period : Followed
      next_period = follow way (room - length lines) (counted k) begin row (corridor_after way c row) (sheet_of way c row) rest

      by : (step : Step) (a : Answer) (has : Bool) → Within k (length rest) (suc (length rest))
          (follow_of step k row c sheet (λ next now. follow way room k next now c sheet rest)
          (tried a k row c sheet
          (after lines (pick has next_period (silent (later (counted k) begin (length rest)) row (corridor_after way c row) (sheet_of way c row)))))).how
      by (More next) a has = within_read k (length rest) (length rest) (follow way room k next row c sheet rest).how (on room k next row c sheet)
      by (Field f v next) a has = within_read k (length rest) (length rest) (follow way room k next (set row f v) c sheet rest).how (on room k next (set row f v) c sheet)
      by Breaks a has = tt
      by Complete (Err why) has = tt
      by Complete (Ok done) true = within_next k (length rest) (length rest) next_period.how (on (room - length lines) (counted k) begin row (corridor_after way c row) (sheet_of way c row))
      by Complete (Ok done) false = (omega arith, omega (arith, counted_most k))

  pub follow_within : (room k : ℕ) (scan : Scan) (row : List ℕ) (c : Corridor) (sheet bytes : List ℕ) → Within k (length bytes) (length bytes) (follow way room k scan row c sheet bytes).how
  unfolding follow
  follow_within room k scan row c sheet [] = (omega arith, omega arith)
  follow_within room k scan row c sheet (byte ∷ rest) =
      within_more k (length rest) (suc (length rest)) (follow way room k scan row c sheet (byte ∷ rest)).how
      (byte_within room k scan row c sheet byte rest (λ room k scan row c sheet. follow_within room k scan row c sheet rest))

  -- a call that goes on has read some byte, and none that was not given
  pub call_reads : (k : ℕ) (scan : Scan) (row : List ℕ) (c : Corridor) (sheet out bytes : List ℕ) (written : ℕ) {read k' at : ℕ} {scan' : Scan} → Ok (On read k' scan' at) ≡ run_of (follow_call way k scan row c sheet out bytes).how (length bytes) written
      → 0 < length bytes → (0 < read) × (read ≤ length bytes)
  unfolding run_of
  call_reads k scan row c sheet out [] written e some = absurd (omega arith)
  call_reads k scan row c sheet out (byte ∷ rest) written {read} e some = by (answer (follow_checks c row sheet out)) e
    where
      read_some : (how : How) {k' at : ℕ} {scan' : Scan} → Within k (length rest) (suc (length rest)) how → Ok (On read k' scan' at) ≡ run_of how (suc (length rest)) written → (0 < read) × (read ≤ suc (length rest))
      read_some (later k'' s left) h e = let same : read ≡ suc (length rest) - left = cc in (omega (arith, h.0), omega (arith, h.0))
      read_some over h e = absurd (let z : ◌≡◌ {A = ℕ} 0 1 = cc in omega arith)
      read_some (refused why) h e = absurd h

      by : (a : Answer) {k' at : ℕ} {scan' : Scan} → Ok (On read k' scan' at) ≡ run_of (if_accepted a row c sheet (follow way (length out) k scan row c sheet (byte ∷ rest))).how (suc (length rest)) written → (0 < read) × (read ≤ suc (length rest))
      by (Ok done) e = read_some (follow way (length out) k scan row c sheet (byte ∷ rest)).how (byte_within (length out) k scan row c sheet byte rest (λ room k scan row c sheet. follow_within room k scan row c sheet rest)) e
      by (Err why) e = absurd (let z : ◌≡◌ {A = ℕ} 0 1 = cc in omega arith)

  -- with one byte more before them, the same bytes are left
  same_onward : (k byte : ℕ) (rest more : List ℕ) (how : How) (row : List ℕ) (c : Corridor) → Within k (length rest) (length rest) how → onward how row c rest more ≡ onward how row c (byte ∷ rest) more
  unfolding onward
  same_onward k byte rest more (later k' scan left) row c h = let one : suc (length rest) - left ≡ suc (length rest - left) = omega (arith, h.0) in rw one
  same_onward k byte rest more over row c h = refl
  same_onward k byte rest more (refused why) row c h = refl

  abbrev written : Followed → List ℕ → List ℕ → List ℕ
  written f bytes more = f.text ++ onward f.how f.row f.corridor bytes more

  same_written : (k byte : ℕ) (rest more : List ℕ) (f : Followed) → Within k (length rest) (length rest) f.how → written f rest more ≡ written f (byte ∷ rest) more
  same_written k byte rest more f h = ap (λ (t : List ℕ). f.text ++ t) (same_onward k byte rest more f.how f.row f.corridor h)

  follow_writes : (room k : ℕ) (scan : Scan) (row : List ℕ) (c : Corridor) (sheet bytes more : List ℕ) → k + length bytes < 18446744073709551615
      → sheet_text way k c (records_on (fields c) scan row (bytes ++ more)) ≡ written (follow way room k scan row c sheet bytes) bytes more
  unfolding records_on records_from sheet_text periods_from follow follow_of tried onward
  follow_writes room k scan row c sheet [] more h = refl
  follow_writes room k scan row c sheet (byte ∷ rest) more h =
      by (feed scan byte (fields c)) (demand_answer c row) refl (leb (lines_room (cells_of c)) (room - length lines))
      (λ next now. follow_writes room k next now c sheet rest more (omega arith) ∙ same_written k byte rest more (follow way room k next now c sheet rest) (follow_within room k next now c sheet rest))
      (follow_writes (room - length lines) (counted k) begin row c' sheet' rest more (omega (arith, counted_most k))
      ∙ same_written (counted k) byte rest more (follow way (room - length lines) (counted k) begin row c' sheet' rest) (follow_within (room - length lines) (counted k) begin row c' sheet' rest))
    where
      lines : List ℕ
      lines = lines_of way k c row

      c' : Corridor
      c' = corridor_after way c row

      sheet' : List ℕ
      sheet' = sheet_of way c row

      by : (step : Step) (a : Answer) → demand_answer c row ≡ a → (has : Bool)
          → ((next : Scan) (now : List ℕ) → sheet_text way k c (records_on (fields c) next now (rest ++ more)) ≡ written (follow way room k next now c sheet rest) (byte ∷ rest) more)
          → sheet_text way (counted k) c' (records_on (fields c) begin row (rest ++ more)) ≡ written (follow way (room - length lines) (counted k) begin row c' sheet' rest) (byte ∷ rest) more
          → sheet_text way k c (records_from step row (λ next now. records_on (fields c) next now (rest ++ more)))
          ≡ written
          (follow_of step k row c sheet (λ next now. follow way room k next now c sheet rest)
          (tried a k row c sheet
          (after lines
          (pick has (follow way (room - length lines) (counted k) begin row c' sheet' rest) (silent (later (counted k) begin (length rest)) row c' sheet')))))
          (byte ∷ rest) more
      by (More next) a is has on period = on next row
      by (Field f v next) a is has on period = on next (set row f v)
      by Breaks a is has on period = sym (append-nil _)
      by Complete (Err why) is has on period = rw is (sym (append-nil _))
      by Complete (Ok done) is true on period =
          let one : counted k ≡ k + 1 = counted_on k (omega arith) in
          rw is
          (ap (λ (m : ℕ). lines ++ sheet_text way m c' (records_on (fields c) begin row (rest ++ more))) (sym one)
          ∙ ap (λ (t : List ℕ). lines ++ t) period
          ∙ sym (append_assoc lines (follow way (room - length lines) (counted k) begin row c' sheet' rest).text _))
      by Complete (Ok done) is false on period =
          let one : counted k ≡ k + 1 = counted_on k (omega arith) in
          let last : suc (length rest) - length rest ≡ suc zero = omega arith in
          rw (is, last, one, append-nil lines)

  end_writes : (k : ℕ) (c : Corridor) (row : List ℕ) (how : End) (a : Answer) → a ≡ demand_answer c row → sheet_text way k c (last_record how row) ≡ did_text k (lines_of way k c row) (did (last_read how) a)
  unfolding sheet_text periods_from last_record did_text did did_row
  end_writes k c row Nothing a e = refl
  end_writes k c row Cut a e = refl
  end_writes k c row Last (Ok done) e = rw (sym e) (append-nil (lines_of way k c row))
  end_writes k c row Last (Err why) e = rw (sym e)

  -- any way of cutting the demand into chunks, and of following them in calls, writes the same
  pub follows_writes : {k : ℕ} {scan : Scan} {row : List ℕ} {c : Corridor} {sheet left : List ℕ} {more : List (List ℕ)} {out : List ℕ} → Follows way k scan row c sheet left more out
      → k + (length left + length (together more)) < 18446744073709551615 → out ≡ sheet_text way k c (records_on (fields c) scan row (left ++ together more))
  unfolding records_on onward follow_end together
  follows_writes (next_chunk {chunk = chunk} {more = more} on) h = follows_writes on (omega (arith, length-append chunk (together more)))
  follows_writes (call {k} {k'} {scan} {scan'} {row} {c} {sheet} {left} {more} room rest f e how on) h =
      let within : Within k (length left) (length left) (later k' scan' rest) = rw (sym e, how) at (follow_within room k scan row c sheet left) in
      let later-text = follows_writes on (omega (arith, within.0, within.1, length-drop (length left - rest) left)) in
      ap (λ (t : List ℕ). f.text ++ t) later-text ∙ sym (rw (sym e, how) at (follow_writes room k scan row c sheet left (together more) (omega arith)))
  follows_writes (stop {k} {scan} {row} {c} {sheet} {left} {more} room f e how) h =
      sym (append-nil f.text) ∙ sym (rw (sym e, how) at (follow_writes room k scan row c sheet left (together more) (omega arith)))
  follows_writes (end {k} {scan} {row} {c}) h = sym (end_writes k c (row_at_end (fields c) scan row) (ended scan (fields c)) (demand_answer c (row_at_end (fields c) scan row)) refl)
