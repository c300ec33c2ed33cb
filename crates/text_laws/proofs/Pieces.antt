-- A text that comes in pieces of any size is read as it would be whole. Assumes nothing.
use Prim.Native.Nat.{ℕ, zero, suc, ◌+◌, ◌-◌, ◌<◌}
use mathlib.Core.Path.{◌≡◌, refl, ap, sym, ◌∙◌}
use mathlib.Core.List.{List, [], ◌∷◌, ◌++◌}
use native.Mathlib.Omega.{arith}
use lib.ListN.{length, set, drop}
use Rattle.text_scans.specs.Scans.{begin, feed, ended}
use Rattle.text_records.specs.Reads.{Text, broken_at, read_from, read_on, row_from, row_on, text_at_end, text_from, text_on}
use Rattle.text_scans.specs.declared.Scan.{Scan}
use Rattle.text_scans.specs.declared.Step.{Step}
use Rattle.text_scans.specs.declared.Step.TheVariants.{More, Field, Complete, Breaks}
use Rattle.text_records.specs.declared.Read.{Read}
use Rattle.text_records.specs.declared.Read.TheVariants.{Record, Part, Broken}

-- a chunk that is used up is followed by the next, from where the reading stands; a record that is complete or broken is not
unfoldable pub next_read : ℕ → ℕ → Read → List ℕ → Read
next_read fields at (Record after) chunk = Record after
next_read fields at (Part scan) chunk = read_on fields at scan chunk
next_read fields at Broken chunk = Broken

unfoldable pub next_row : ℕ → Read → List ℕ → List ℕ → List ℕ
next_row fields (Record after) row chunk = row
next_row fields (Part scan) row chunk = row_on fields scan row chunk
next_row fields Broken row chunk = row

pub read_in_pieces : (fields at : ℕ) (s : Scan) (a b : List ℕ) → read_on fields at s (a ++ b) ≡ next_read fields (at + length a) (read_on fields at s a) b
unfolding read_on read_from next_read
read_in_pieces fields at s [] b = ap (λ (k : ℕ). read_on fields k s b) (omega arith)
read_in_pieces fields at s (byte ∷ a) b = by (feed s byte fields) (λ next. read_in_pieces fields (at + 1) next a b)
  where
    on : (next : Scan) → read_on fields (at + 1) next (a ++ b) ≡ next_read fields (at + 1 + length a) (read_on fields (at + 1) next a) b
        → read_on fields (at + 1) next (a ++ b) ≡ next_read fields (at + suc (length a)) (read_on fields (at + 1) next a) b
    on next e = e ∙ ap (λ (k : ℕ). next_read fields k (read_on fields (at + 1) next a) b) (omega arith)

    by : (step : Step) → ((next : Scan) → read_on fields (at + 1) next (a ++ b) ≡ next_read fields (at + 1 + length a) (read_on fields (at + 1) next a) b)
        → read_from step (λ next. read_on fields (at + 1) next (a ++ b)) (at + 1) ≡ next_read fields (at + suc (length a)) (read_from step (λ next. read_on fields (at + 1) next a) (at + 1)) b
    by (More next) same = on next (same next)
    by (Field f v next) same = on next (same next)
    by Complete same = refl
    by Breaks same = refl

pub row_in_pieces : (fields at : ℕ) (s : Scan) (row a b : List ℕ) → row_on fields s row (a ++ b) ≡ next_row fields (read_on fields at s a) (row_on fields s row a) b
unfolding read_on read_from row_on row_from next_row
row_in_pieces fields at s row [] b = refl
row_in_pieces fields at s row (byte ∷ a) b = by (feed s byte fields) (λ next now. row_in_pieces fields (at + 1) next now a b)
  where
    by : (step : Step) → ((next : Scan) (now : List ℕ) → row_on fields next now (a ++ b) ≡ next_row fields (read_on fields (at + 1) next a) (row_on fields next now a) b)
        → row_from step (λ next now. row_on fields next now (a ++ b)) row
        ≡ next_row fields (read_from step (λ next. read_on fields (at + 1) next a) (at + 1)) (row_from step (λ next now. row_on fields next now a) row) b
    by (More next) same = same next row
    by (Field f v next) same = same next (set row f v)
    by Complete same = refl
    by Breaks same = refl

-- the same bytes at another index of their chunk
unfoldable pub moved : ℕ → Read → Read
moved by (Record after) = Record (after + by)
moved by (Part scan) = Part scan
moved by Broken = Broken

pub read_elsewhere : (fields at by : ℕ) (s : Scan) (bytes : List ℕ) → read_on fields (at + by) s bytes ≡ moved by (read_on fields at s bytes)
unfolding read_on read_from moved
read_elsewhere fields at by s [] = refl
read_elsewhere fields at by s (byte ∷ rest) = cases (feed s byte fields) (λ next. read_elsewhere fields (at + 1) by next rest)
  where
    there : at + by + 1 ≡ at + 1 + by
    there = omega arith

    cases : (step : Step) → ((next : Scan) → read_on fields (at + 1 + by) next rest ≡ moved by (read_on fields (at + 1) next rest))
        → read_from step (λ next. read_on fields (at + by + 1) next rest) (at + by + 1) ≡ moved by (read_from step (λ next. read_on fields (at + 1) next rest) (at + 1))
    cases (More next) same = rw there (same next)
    cases (Field f v next) same = rw there (same next)
    cases Complete same = ap Record there
    cases Breaks same = refl

-- A whole text that comes in pieces: after some of its bytes so many records are complete and the reading stands somewhere in
-- the next, or a record is broken.

pub data Progress : Type 0 where
  reading : ℕ → Scan → Progress
  stopped : ℕ → Progress

unfoldable pub progress_of : Step → ℕ → (Progress → Progress) → Progress
progress_of (More next) n on = on (reading n next)
progress_of (Field field number next) n on = on (reading n next)
progress_of Complete n on = on (reading (n + 1) begin)
progress_of Breaks n on = on (stopped (n + 1))

unfoldable pub progress : ℕ → Progress → List ℕ → Progress
progress fields so [] = so
progress fields (reading n scan) (byte ∷ rest) = progress_of (feed scan byte fields) n (λ next. progress fields next rest)
progress fields (stopped place) (byte ∷ rest) = stopped place

-- what the text is found to be if it ends there
unfoldable pub found_at : ℕ → Progress → Text
found_at fields (reading n scan) = text_at_end (ended scan fields) n
found_at fields (stopped place) = broken_at place

pub stays_stopped : (fields place : ℕ) (bytes : List ℕ) → progress fields (stopped place) bytes ≡ stopped place
unfolding progress
stays_stopped fields place [] = refl
stays_stopped fields place (byte ∷ rest) = refl

-- piece after piece is all at once
pub progress_in_pieces : (fields : ℕ) (so : Progress) (a b : List ℕ) → progress fields so (a ++ b) ≡ progress fields (progress fields so a) b
unfolding progress progress_of
progress_in_pieces fields so [] b = refl
progress_in_pieces fields (stopped place) (byte ∷ a) b = sym (stays_stopped fields place b)
progress_in_pieces fields (reading n scan) (byte ∷ a) b = by (feed scan byte fields) (λ next. progress_in_pieces fields next a b)
  where
    by : (step : Step) → ((next : Progress) → progress fields next (a ++ b) ≡ progress fields (progress fields next a) b)
        → progress_of step n (λ next. progress fields next (a ++ b)) ≡ progress fields (progress_of step n (λ next. progress fields next a)) b
    by (More next) same = same (reading n next)
    by (Field f v next) same = same (reading n next)
    by Complete same = same (reading (n + 1) begin)
    by Breaks same = same (stopped (n + 1))

-- the whole text is found to be what its progress says
pub found_by_progress : (fields n : ℕ) (s : Scan) (bytes : List ℕ) → text_on fields n s bytes ≡ found_at fields (progress fields (reading n s) bytes)
unfolding text_on text_from progress progress_of found_at
found_by_progress fields n s [] = refl
found_by_progress fields n s (byte ∷ rest) =
    by (feed s byte fields) (λ next. found_by_progress fields n next rest) (found_by_progress fields (n + 1) begin rest)
  where
    by : (step : Step) → ((next : Scan) → text_on fields n next rest ≡ found_at fields (progress fields (reading n next) rest))
        → text_on fields (n + 1) begin rest ≡ found_at fields (progress fields (reading (n + 1) begin) rest)
        → text_from step (λ next. text_on fields n next rest) (text_on fields (n + 1) begin rest) n ≡ found_at fields (progress_of step n (λ next. progress fields next rest))
    by (More next) same another = same next
    by (Field f v next) same another = same next
    by Complete same another = another
    by Breaks same another = ap (found_at fields) (sym (stays_stopped fields (n + 1) rest))

-- a complete record ends after where its reading began
pub reaches_on : (fields at : ℕ) (s : Scan) (bytes : List ℕ) (after : ℕ) → read_on fields at s bytes ≡ Record after → at < after
unfolding read_on read_from
reaches_on fields at s [] after e = absurd (let z : ◌≡◌ {A = ℕ} 0 1 = cc in omega arith)
reaches_on fields at s (byte ∷ rest) after e = by (feed s byte fields) (λ next h. reaches_on fields (at + 1) next rest after h) e
  where
    by : (step : Step) → ((next : Scan) → read_on fields (at + 1) next rest ≡ Record after → at + 1 < after)
        → read_from step (λ next. read_on fields (at + 1) next rest) (at + 1) ≡ Record after → at < after
    by (More next) on e = omega (arith, on next e)
    by (Field f v next) on e = omega (arith, on next e)
    by Complete on e = let same : at + 1 ≡ after = cc in omega arith
    by Breaks on e = absurd (let z : ◌≡◌ {A = ℕ} 0 1 = cc in omega arith)

-- one call that reads on in a piece, from an index of it: where a record is complete, the rest of the piece is still to be read
unfoldable pub next_progress : ℕ → ℕ → ℕ → Read → List ℕ → Progress
next_progress fields n at (Record after) bytes = progress fields (reading (n + 1) begin) (drop (after - at) bytes)
next_progress fields n at (Part scan) bytes = reading n scan
next_progress fields n at Broken bytes = stopped (n + 1)

pub progress_by_records : (fields n at : ℕ) (s : Scan) (bytes : List ℕ) → progress fields (reading n s) bytes ≡ next_progress fields n at (read_on fields at s bytes) bytes
unfolding read_on read_from progress progress_of next_progress
progress_by_records fields n at s [] = refl
progress_by_records fields n at s (byte ∷ rest) = by (feed s byte fields) (λ next. progress_by_records fields n (at + 1) next rest)
  where
    on : (found : Read) → ((after : ℕ) → found ≡ Record after → at + 1 < after) → next_progress fields n (at + 1) found rest ≡ next_progress fields n at found (byte ∷ rest)
    on (Record after) past =
        let one_less : after - at ≡ suc (after - (at + 1)) = omega (arith, past after refl) in
        rw one_less
    on (Part scan) past = refl
    on Broken past = refl

    by : (step : Step) → ((next : Scan) → progress fields (reading n next) rest ≡ next_progress fields n (at + 1) (read_on fields (at + 1) next rest) rest)
        → progress_of step n (λ next. progress fields next rest) ≡ next_progress fields n at (read_from step (λ next. read_on fields (at + 1) next rest) (at + 1)) (byte ∷ rest)
    by (More next) same = same next ∙ on (read_on fields (at + 1) next rest) (reaches_on fields (at + 1) next rest)
    by (Field f v next) same = same next ∙ on (read_on fields (at + 1) next rest) (reaches_on fields (at + 1) next rest)
    by Complete same = let one : at + 1 - at ≡ suc zero = omega arith in rw one
    by Breaks same = stays_stopped fields (n + 1) rest
