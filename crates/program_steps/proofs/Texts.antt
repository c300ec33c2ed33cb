-- A file read chunk after chunk is found to be what its whole text is, and its numbers are stored. Assumes nothing.
use Prim.Native.Nat.{ℕ, suc, ◌+◌, ◌≤◌, ◌<◌}
use mathlib.Core.Path.{◌≡◌, refl, sym, ap, ◌∙◌}
use mathlib.Core.Bool.{Bool, true, false}
use mathlib.Core.List.{List, [], ◌∷◌}
use native.Mathlib.Numerals.{add-one}
use native.Mathlib.Omega.{arith}
use borrow.Author.Tests.{lt-ltb, ltb-false}
use lib.Dec.{ltb}
use lib.ListN.{length, set, length-set}
use lib.Seq.{sets, set_out}
use Rattle.program_files.specs.declared.Unread.TheVariants.{Broken}
use Rattle.whole.specs.Search.{pick}
use Rattle.text_digits.specs.Lines.{CR}
use Rattle.text_scans.specs.Scans.{begin, feed, untouched, last_field, ended}
use Rattle.text_scans.specs.declared.Scan.{Scan}
use Rattle.text_scans.specs.declared.Step.{Step}
use Rattle.text_scans.specs.declared.Step.TheVariants.{More, Field, Complete, Breaks}
use Rattle.text_scans.specs.declared.End.TheVariants.{Nothing, Cut}
use Rattle.text_records.specs.Texts.{together}
use Rattle.text_records.specs.Reads.{text_from, text_on, numbers_from, numbers_on, text_at_end, Text}
use Rattle.program_files.specs.Files as files
use Rattle.program_files.specs.Files.{counted, next_index, file_of, file_on, file_end, Standing, standing}
use Rattle.program_files.proofs.FilePieces.{stays_unread, file_in_pieces}
use Rattle.program_steps.specs.Program.{text_file}
use Rattle.program_steps.specs.Steps.{pieces_on}

-- within 64 bits a count goes on
pub counted_on : (n : ℕ) → n < 18446744073709551615 → counted n ≡ n + 1
unfolding counted
counted_on n h = rw (lt-ltb n 18446744073709551615 h)

pub counted_most : (n : ℕ) → counted n ≤ n + 1
unfolding counted
counted_most n = by (ltb n 18446744073709551615)
  where
    by : (less : Bool) → pick less (n + 1) n ≤ n + 1
    by true = omega arith
    by false = omega arith

-- past its end nothing is stored in a list
sets_out : (l xs : List ℕ) (i : ℕ) → length l ≤ i → sets l i xs ≡ l
sets_out l [] i h = refl
sets_out l (x ∷ xs) i h = rw (set_out l i x h) (sets_out l xs (suc i) (omega arith))

-- a number at the next index, and those after it
stored_on : (l : List ℕ) (i v : ℕ) (xs : List ℕ) → sets (set l i v) (next_index (length l) i) xs ≡ sets l i (v ∷ xs)
unfolding next_index
stored_on l i v xs = by (ltb i (length l)) refl
  where
    by : (inside : Bool) → ltb i (length l) ≡ inside → sets (set l i v) (pick inside (i + 1) i) xs ≡ sets (set l i v) (suc i) xs
    by true e = ap (λ (j : ℕ). sets (set l i v) j xs) (add-one i)
    by false e =
        let past : length l ≤ i = ltb-false i (length l) e in
        let len = length-set l i v in
        sets_out (set l i v) xs i (omega arith) ∙ sym (sets_out (set l i v) xs (suc i) (omega arith))

-- the text ends
end_is_text : (fields n index : ℕ) (scan : Scan) (list : List ℕ) → n < 18446744073709551615
    → file_end fields (standing n index scan) list ≡ (text_file (text_on fields n scan []), sets list index (numbers_on fields scan []))
unfolding file_end files.end_of text_on numbers_on numbers_from ended
end_is_text fields n index scan list h = by (feed scan CR fields) (untouched scan)
  where
    by : (step : Step) (between : Bool) → files.end_of step between n index list ≡ (text_file (text_at_end (last_field step (pick between Nothing Cut)) n), sets list index (numbers_from step (λ next. []) []))
    by (More next) true = refl
    by (More next) false = rw (counted_on n h)
    by (Field f v next) between = rw (counted_on n h)
    by Complete true = refl
    by Complete false = rw (counted_on n h)
    by Breaks true = refl
    by Breaks false = rw (counted_on n h)

-- a text of fewer than 2^64 bytes, from where the reading stands
pub file_is_text : (fields n index : ℕ) (scan : Scan) (list bytes : List ℕ) → n + length bytes < 18446744073709551615
    → file_end fields (file_on fields (standing n index scan) list bytes).0 (file_on fields (standing n index scan) list bytes).1
    ≡ (text_file (text_on fields n scan bytes), sets list index (numbers_on fields scan bytes))
unfolding file_end file_on file_of text_on text_from numbers_on numbers_from
file_is_text fields n index scan list [] h = end_is_text fields n index scan list (omega arith)
file_is_text fields n index scan list (byte ∷ rest) h =
    by (feed scan byte fields)
    (λ m i next l small. file_is_text fields m i next l rest small)
  where
    Is : Standing → List ℕ → Text → List ℕ → Type 0
    Is so l found stored = file_end fields (file_on fields so l rest).0 (file_on fields so l rest).1 ≡ (text_file found, stored)

    by : (step : Step)
        → ((m i : ℕ) (next : Scan) (l : List ℕ) → m + length rest < 18446744073709551615 → Is (standing m i next) l (text_on fields m next rest) (sets l i (numbers_on fields next rest)))
        → file_end fields (file_of step n index list (λ so then. file_on fields so then rest)).0 (file_of step n index list (λ so then. file_on fields so then rest)).1
        ≡ (text_file (text_from step (λ next. text_on fields n next rest) (text_on fields (n + 1) begin rest) n), sets list index (numbers_from step (λ next. numbers_on fields next rest) (numbers_on fields begin rest)))
    by (More next) is = is n index next list (omega arith)
    by (Field f v next) is =
        is n (next_index (length list) index) next (set list index v) (omega arith)
        ∙ ap (λ (l : List ℕ). (text_file (text_on fields n next rest), l)) (stored_on list index v (numbers_on fields next rest))
    by Complete is = rw (counted_on n (omega arith)) (is (n + 1) index begin list (omega arith))
    by Breaks is = rw (stays_unread fields (Broken (counted n)) list rest) (rw (counted_on n (omega arith)))

-- chunk after chunk is the whole text
pub pieces_are_whole : (fields : ℕ) (so : Standing) (list : List ℕ) (pieces : List (List ℕ)) → pieces_on fields so list pieces ≡ file_on fields so list (together pieces)
unfolding pieces_on file_on together
pieces_are_whole fields so list [] = refl
pieces_are_whole fields so list (piece ∷ rest) =
    pieces_are_whole fields (file_on fields so list piece).0 (file_on fields so list piece).1 rest ∙ sym (file_in_pieces fields so list piece (together rest))
