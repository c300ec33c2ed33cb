-- One record that is read by itself: what is found complete is the line of a record that fits, and the row then holds that
-- record; what the text's end completes is the text of one. Assumes nothing.
use Prim.Native.Nat.{ℕ, ◌+◌}
use mathlib.Core.Path.{◌≡◌, ap, sym, ◌∙◌}
use mathlib.Core.Bool.{Bool, true, false}
use mathlib.Core.List.{List, [], ◌∷◌, ◌++◌, append_assoc, append-nil}
use native.Mathlib.Omega.{arith}
use borrow.Author.Tests.{ne_eqb}
use lib.Dec.{eqb}
use lib.ListN.{length, length-append}
use Rattle.whole.specs.Search.{pick}
use Rattle.text_digits.specs.Lines.{CR, record_text, line_text}
use Rattle.text_laws.proofs.Fed.{Fed, next_digit, comma, return, breaks, fed}
use Rattle.text_laws.proofs.ReadBack.{row_reads_back}
use Rattle.text_laws.proofs.Accepted.{SoFar, at_start_lem, in_number_lem, at_return, After, one_byte_on, nothing_yet, closes, record_and, start_text}
use Rattle.text_records.specs.Texts.{Fits}
use Rattle.text_scans.specs.Scans.{begin, feed, ended}
use Rattle.text_scans.specs.Scans as scans
use Rattle.text_records.specs.Reads.{read_from, read_on, row_on}
use Rattle.text_scans.specs.declared.Scan.{Scan}
use Rattle.text_scans.specs.declared.Scan.TheVariants.{Start, Number, Return}
use Rattle.text_scans.specs.declared.Step.{Step}
use Rattle.text_scans.specs.declared.Step.TheVariants.{More, Field, Complete, Breaks}
use Rattle.text_scans.specs.declared.End.TheVariants.{Nothing, Last, Cut}
use Rattle.text_records.specs.declared.Read.TheVariants.{Record, Part, Broken}

not_record : {s : Scan} {after : ℕ} → Part s ≡ Record after → ⊥
not_record e = let z : ◌≡◌ {A = ℕ} 0 1 = cc in omega arith

broken_not_record : {after : ℕ} → Broken ≡ Record after → ⊥
broken_not_record e = let z : ◌≡◌ {A = ℕ} 0 1 = cc in omega arith

same_index : {n m : ℕ} → Record n ≡ Record m → n ≡ m
same_index e = cc

-- A complete record, with the bytes of it that were read before.
record Line (fields at : ℕ) (pre bytes : List ℕ) (after : ℕ) : Type 0 where
  row : List ℕ
  rest : List ℕ
  fits : Fits fields row
  is : pre ++ bytes ≡ line_text row ++ rest
  ends : after + length pre ≡ at + length (line_text row)

line_found : (fields at after : ℕ) (s : Scan) (pre ns bytes : List ℕ) → SoFar fields s pre ns → read_on fields at s bytes ≡ Record after → Line fields at pre bytes after
unfolding read_on read_from After
line_found fields at after s pre ns [] so e = absurd (not_record e)
line_found fields at after s pre ns (b ∷ bytes) so e =
    by (feed s b fields) (one_byte_on so (fed fields s b)) (λ t ms next h. line_found fields (at + 1) after t (pre ++ b ∷ []) ms bytes next h) e
  where
    on : Line fields (at + 1) (pre ++ b ∷ []) bytes after → Line fields at pre (b ∷ bytes) after
    on found =
        record {
          row = found.row;
          rest = found.rest;
          fits = found.fits;
          is = sym (append_assoc pre (b ∷ []) bytes) ∙ found.is;
          ends = omega (arith, found.ends, length-append pre (b ∷ []));
        }

    by : (step : Step) → After fields step pre b ns
        → ((t : Scan) (ms : List ℕ) → SoFar fields t (pre ++ b ∷ []) ms → read_on fields (at + 1) t bytes ≡ Record after → Line fields (at + 1) (pre ++ b ∷ []) bytes after)
        → read_from step (λ next. read_on fields (at + 1) next bytes) (at + 1) ≡ Record after → Line fields at pre (b ∷ bytes) after
    by (More t) next again e = on (again t ns next e)
    by (Field f v t) next again e = on (again t (ns ++ v ∷ []) next e)
    by Complete next again e =
        record {
          row = ns;
          rest = bytes;
          fits = next.1;
          is = sym (append_assoc pre (b ∷ []) bytes) ∙ ap (λ (l : List ℕ). l ++ bytes) next.0;
          ends = omega (arith, same_index e, length-append pre (b ∷ []), ap length next.0);
        }
    by Breaks next again e = absurd (broken_not_record e)

pub record IsLine (fields at : ℕ) (bytes : List ℕ) (after : ℕ) : Type 0 where
  pub row : List ℕ
  pub rest : List ℕ
  pub fits : Fits fields row
  pub is : bytes ≡ line_text row ++ rest
  pub ends : after ≡ at + length (line_text row)
  pub holds : (before : List ℕ) → length before ≡ fields → row_on fields begin before bytes ≡ row

pub record_accepted : (fields at after : ℕ) (bytes : List ℕ) → read_on fields at begin bytes ≡ Record after → IsLine fields at bytes after
record_accepted fields at after bytes e =
    let found = line_found fields at after begin [] [] bytes (nothing_yet fields) e in
    record {
      row = found.row;
      rest = found.rest;
      fits = found.fits;
      is = found.is;
      ends = omega (arith, found.ends);
      holds = λ before same. ap (row_on fields begin before) found.is ∙ row_reads_back fields found.row before found.rest found.fits same;
    }

-- A record that is not complete: where the reading stands.
record Standing (fields : ℕ) (bytes : List ℕ) (t : Scan) : Type 0 where
  past : List ℕ
  so : SoFar fields t bytes past

same_scan : {s t : Scan} → Part s ≡ Part t → s ≡ t
same_scan e = cc

not_part : {after : ℕ} {t : Scan} → Record after ≡ Part t → ⊥
not_part e = let z : ◌≡◌ {A = ℕ} 0 1 = cc in omega arith

broken_not_part : {t : Scan} → Broken ≡ Part t → ⊥
broken_not_part e = let z : ◌≡◌ {A = ℕ} 0 1 = cc in omega arith

stands : (fields at : ℕ) (s t : Scan) (pre ns bytes : List ℕ) → SoFar fields s pre ns → read_on fields at s bytes ≡ Part t → Standing fields (pre ++ bytes) t
unfolding read_on read_from After
stands fields at s t pre ns [] so e = record { past = ns; so = rw (append-nil pre, sym (same_scan e)) so }
stands fields at s t pre ns (b ∷ bytes) so e =
    by (feed s b fields) (one_byte_on so (fed fields s b)) (λ u ms next h. stands fields (at + 1) u t (pre ++ b ∷ []) ms bytes next h) e
  where
    on : Standing fields ((pre ++ b ∷ []) ++ bytes) t → Standing fields (pre ++ b ∷ bytes) t
    on found = rw (append_assoc pre (b ∷ []) bytes) at found

    by : (step : Step) → After fields step pre b ns
        → ((u : Scan) (ms : List ℕ) → SoFar fields u (pre ++ b ∷ []) ms → read_on fields (at + 1) u bytes ≡ Part t → Standing fields ((pre ++ b ∷ []) ++ bytes) t)
        → read_from step (λ next. read_on fields (at + 1) next bytes) (at + 1) ≡ Part t → Standing fields (pre ++ b ∷ bytes) t
    by (More u) next again e = on (again u ns next e)
    by (Field f v u) next again e = on (again u (ns ++ v ∷ []) next e)
    by Complete next again e = absurd (not_part e)
    by Breaks next again e = absurd (broken_not_part e)

-- The text ends where the reading stands.

nothing_not_last : Nothing ≡ Last → ⊥
nothing_not_last e = let z : ◌≡◌ {A = ℕ} 0 1 = cc in omega arith

cut_not_last : Cut ≡ Last → ⊥
cut_not_last e = let z : ◌≡◌ {A = ℕ} 0 1 = cc in omega arith

cut_not_nothing : Cut ≡ Nothing → ⊥
cut_not_nothing e = let z : ◌≡◌ {A = ℕ} 0 1 = cc in omega arith

last_not_nothing : Last ≡ Nothing → ⊥
last_not_nothing e = let z : ◌≡◌ {A = ℕ} 0 1 = cc in omega arith

unfinished_not_last : (t : Bool) → pick t Nothing Cut ≡ Last → ⊥
unfinished_not_last true e = nothing_not_last e
unfinished_not_last false e = cut_not_last e

pub record IsOpen (fields : ℕ) (bytes : List ℕ) : Type 0 where
  pub row : List ℕ
  pub fits : Fits fields row
  pub is : bytes ≡ record_text row

ends_last : (fields : ℕ) (t : Scan) (bytes past : List ℕ) → SoFar fields t bytes past → ended t fields ≡ Last → IsOpen fields bytes
unfolding ended feed scans.at_start
ends_last fields (Start f y) bytes past (at_start_lem is count size short small) e = absurd (unfinished_not_last (eqb f 0) e)
ends_last fields (Number f y v) bytes past (in_number_lem is count size short fits small) e = by (feed (Number f y v) CR fields) (fed fields (Number f y v) CR) e
  where
    by : (step : Step) → Fed fields (Number f y v) CR step → scans.last_field step Cut ≡ Last → IsOpen fields bytes
    by step (next_digit low high some fit room) e = absurd (omega arith)
    by step (comma is-comma more room) e = absurd (omega arith)
    by step (return is-return is_last) e =
        record { row = past ++ v ∷ []; fits = closes is count size short fits small is_last; is = is ∙ sym (record_and past v) }
    by step breaks e = absurd (cut_not_last e)
ends_last fields Return bytes row (at_return is fits) e = absurd (cut_not_last e)

pub open_accepted : (fields at : ℕ) (bytes : List ℕ) (t : Scan) → read_on fields at begin bytes ≡ Part t → ended t fields ≡ Last → IsOpen fields bytes
open_accepted fields at bytes t reads last =
    let found = stands fields at begin t [] [] bytes (nothing_yet fields) reads in
    ends_last fields t bytes found.past found.so last

ends_nothing : (fields : ℕ) (t : Scan) (bytes past : List ℕ) → SoFar fields t bytes past → ended t fields ≡ Nothing → bytes ≡ []
unfolding ended feed scans.at_start start_text
ends_nothing fields (Start f y) bytes [] (at_start_lem is count size short small) e = is
ends_nothing fields (Start f y) bytes (m ∷ past) (at_start_lem is count size short small) e =
    absurd (cut_not_nothing (rw (ne_eqb f 0 (λ z. omega arith)) at e))
ends_nothing fields (Number f y v) bytes past (in_number_lem is count size short fits small) e = by (feed (Number f y v) CR fields) e
  where
    by : (step : Step) → scans.last_field step Cut ≡ Nothing → bytes ≡ []
    by (More t) e = absurd (cut_not_nothing e)
    by (Field f v t) e = absurd (last_not_nothing e)
    by Complete e = absurd (cut_not_nothing e)
    by Breaks e = absurd (cut_not_nothing e)
ends_nothing fields Return bytes row (at_return is fits) e = absurd (cut_not_nothing e)

pub nothing_accepted : (fields at : ℕ) (bytes : List ℕ) (t : Scan) → read_on fields at begin bytes ≡ Part t → ended t fields ≡ Nothing → bytes ≡ []
nothing_accepted fields at bytes t reads none =
    let found = stands fields at begin t [] [] bytes (nothing_yet fields) reads in
    ends_nothing fields t bytes found.past found.so none
