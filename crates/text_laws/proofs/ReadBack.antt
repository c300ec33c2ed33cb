-- The text of numbers reads back as those numbers. Assumes nothing.
use Prim.Native.Nat.{ℕ, zero, suc, ◌+◌, ◌*◌, ◌/◌, ◌%◌, ◌≤◌, ◌<◌}
use mathlib.Core.Path.{◌≡◌, refl, ap, sym, subst⁻¹, ◌∙◌}
use mathlib.Core.Bool.{Bool, true, false}
use mathlib.Core.List.{List, [], ◌∷◌, ◌++◌, append_assoc, append-nil}
use native.Mathlib.Nat.{not-suc-le-zero}
use native.Mathlib.Numerals.{add-one}
use native.Mathlib.Omega.{arith}
use borrow.Author.Tests.{ltb-true, ltb-false}
use lib.Dec.{ltb}
use lib.ListN.{length, set, length-append}
use lib.Seq.{sets, sets-eq, drop-length}
use Rattle.text_digits.proofs.Digits.{one_digit, more_digits_lem}
use Rattle.text_digits.specs.Lines.{LF, CR, DIGIT, digits_of, further_text, record_text, line_text}
use Rattle.text_records.proofs.Comes.{feeds_comma}
use Rattle.text_laws.proofs.Fed.{feeds_first, feeds_next, feeds_return, feeds_line}
use Rattle.text_records.specs.Texts.{text_of, Small, and, Fits, AllFit, none_left, and_then, TextOf, closed, left_open, together}
use Rattle.text_scans.specs.Scans.{LARGEST, LONGEST, begin, feed, ended}
use Rattle.text_scans.specs.Scans as scans
use Rattle.text_records.specs.Reads.{read_from, read_on, row_from, row_on, row_at_end, text_from, text_on, numbers_from, numbers_on, held, numbers}
use Rattle.text_scans.specs.declared.Scan.{Scan}
use Rattle.text_scans.specs.declared.Scan.TheVariants.{Start, Number, Return}
use Rattle.text_scans.specs.declared.Step.TheVariants.{More, Field}
use Rattle.text_scans.specs.declared.End.TheVariants.{Last}
use Rattle.text_records.specs.declared.Read.TheVariants.{Record, Part}
use Rattle.std.specs.Prelude.{Ok}

-- Bytes inside a record lead from one place of it to another, past these numbers, which go to the row.
pub data Goes (fields : ℕ) : Scan → List ℕ → List ℕ → List ℕ → Scan → List ℕ → Type 0 where
  stays : {s : Scan} {row : List ℕ} → Goes fields s row [] [] s row
  more : {s t u : Scan} {row later bytes past : List ℕ} {b : ℕ} → feed s b fields ≡ More t → Goes fields t row bytes past u later
      → Goes fields s row (b ∷ bytes) past u later
  field : {s t u : Scan} {row later bytes past : List ℕ} {b f v : ℕ} → feed s b fields ≡ Field f v t → Goes fields t (set row f v) bytes past u later
      → Goes fields s row (b ∷ bytes) (v ∷ past) u later

pub goes_then : {fields : ℕ} {s t u : Scan} {row mid later a b ns ms : List ℕ} → Goes fields s row a ns t mid → Goes fields t mid b ms u later
    → Goes fields s row (a ++ b) (ns ++ ms) u later
goes_then stays next = next
goes_then (more e path) next = more e (goes_then path next)
goes_then (field e path) next = field e (goes_then path next)

-- What is read over such bytes and then others is what is read over the others from there.

pub read_goes : {fields : ℕ} {s t : Scan} {row later a past : List ℕ} → Goes fields s row a past t later → (at : ℕ) (rest : List ℕ)
    → read_on fields at s (a ++ rest) ≡ read_on fields (at + length a) t rest
unfolding read_on read_from
read_goes {fields} {s} stays at rest = ap (λ (k : ℕ). read_on fields k s rest) (omega arith)
read_goes {fields} {t = t} (more {bytes = bytes} e path) at rest =
    rw e (read_goes path (at + 1) rest ∙ ap (λ (k : ℕ). read_on fields k t rest) (omega arith))
read_goes {fields} {t = t} (field {bytes = bytes} e path) at rest =
    rw e (read_goes path (at + 1) rest ∙ ap (λ (k : ℕ). read_on fields k t rest) (omega arith))

pub row_goes : {fields : ℕ} {s t : Scan} {row later a past : List ℕ} → Goes fields s row a past t later → (rest : List ℕ)
    → row_on fields s row (a ++ rest) ≡ row_on fields t later rest
unfolding row_on row_from
row_goes stays rest = refl
row_goes (more e path) rest = rw e (row_goes path rest)
row_goes (field e path) rest = rw e (row_goes path rest)

pub text_goes : {fields : ℕ} {s t : Scan} {row later a past : List ℕ} → Goes fields s row a past t later → (n : ℕ) (rest : List ℕ)
    → text_on fields n s (a ++ rest) ≡ text_on fields n t rest
unfolding text_on text_from
text_goes stays n rest = refl
text_goes (more e path) n rest = rw e (text_goes path n rest)
text_goes (field e path) n rest = rw e (text_goes path n rest)

pub numbers_go : {fields : ℕ} {s t : Scan} {row later a past : List ℕ} → Goes fields s row a past t later → (rest : List ℕ)
    → numbers_on fields s (a ++ rest) ≡ past ++ numbers_on fields t rest
unfolding numbers_on numbers_from
numbers_go stays rest = refl
numbers_go (more e path) rest = rw e (numbers_go path rest)
numbers_go (field {v = v} e path) rest = rw e (ap (λ (l : List ℕ). v ∷ l) (numbers_go path rest))

-- The digits of a number make that number.

digits_go : (k fields f y n : ℕ) (row : List ℕ) → n < k → n ≤ LARGEST → y + length (digits_of n) ≤ LONGEST
    → Goes fields (Start f y) row (digits_of n) [] (Number f (y + length (digits_of n)) n) row
digits_go zero fields f y n row h fits room = absurd (not-suc-le-zero h)
digits_go (suc k) fields f y n row h fits room = by (ltb n 10) refl (λ big shorter. digits_go k fields f y (n / 10) row (omega arith) (omega arith) shorter)
  where
    by : (t : Bool) → ltb n 10 ≡ t
        → (10 ≤ n → y + length (digits_of (n / 10)) ≤ LONGEST → Goes fields (Start f y) row (digits_of (n / 10)) [] (Number f (y + length (digits_of (n / 10))) (n / 10)) row)
        → Goes fields (Start f y) row (digits_of n) [] (Number f (y + length (digits_of n)) n) row
    by true e shorter = alone (one_digit n (ltb-true n 10 e))
      where
        alone : digits_of n ≡ (DIGIT + n) ∷ [] → Goes fields (Start f y) row (digits_of n) [] (Number f (y + length (digits_of n)) n) row
        alone is = rw is (more (feeds_first fields f y n (ltb-true n 10 e) (omega (arith, ap length is))) stays)
    by false e shorter = longer (ltb-false n 10 e) (more_digits_lem n (ltb-false n 10 e))
      where
        longer : 10 ≤ n → digits_of n ≡ digits_of (n / 10) ++ (DIGIT + n % 10) ∷ [] → Goes fields (Start f y) row (digits_of n) [] (Number f (y + length (digits_of n)) n) row
        longer big is =
            let size : length (digits_of n) ≡ length (digits_of (n / 10)) + 1 = ap length is ∙ length-append (digits_of (n / 10)) ((DIGIT + n % 10) ∷ []) in
            let whole : n / 10 * 10 + n % 10 ≡ n = omega arith in
            let last : feed (Number f (y + length (digits_of (n / 10))) (n / 10)) (DIGIT + n % 10) fields ≡ More (Number f (y + length (digits_of n)) n) =
            feeds_next fields f (y + length (digits_of (n / 10))) (n / 10) (n % 10) (omega arith) (λ (z : n / 10 ≡ 0). omega arith) (omega arith) (omega arith)
            ∙ ap (λ (m : ℕ). More (Number f (y + length (digits_of (n / 10)) + 1) m)) whole ∙ ap (λ (m : ℕ). More (Number f m n)) (omega arith) in
            subst⁻¹ (λ (l : List ℕ). Goes fields (Start f y) row l [] (Number f (y + length (digits_of n)) n) row) is
            (goes_then (shorter big (omega arith)) (more last stays))

pub number_goes : (fields f y n : ℕ) (row : List ℕ) → n ≤ LARGEST → y + length (digits_of n) ≤ LONGEST
    → Goes fields (Start f y) row (digits_of n) [] (Number f (y + length (digits_of n)) n) row
number_goes fields f y n row = digits_go (suc n) fields f y n row (omega arith)

-- The numbers of a record, up to its end or the text's: all but the last are past, and the record's end completes the last.

pub record Reaches (fields : ℕ) (s : Scan) (f : ℕ) (row bytes list : List ℕ) : Type 0 where
  pub scan : Scan
  pub later : List ℕ
  pub past : List ℕ
  pub index : ℕ
  pub value : ℕ
  pub path : Goes fields s row bytes past scan later
  pub close : feed scan CR fields ≡ Field index value Return
  pub all : past ++ value ∷ [] ≡ list
  pub stored : set later index value ≡ sets row f list

further_reaches : (rest : List ℕ) (fields f y v : ℕ) (row : List ℕ) → f + 1 + length rest ≡ fields → Small rest → y + length (further_text rest) ≤ LONGEST
    → Reaches fields (Number f y v) f row (further_text rest) (v ∷ rest)
unfolding further_text
further_reaches [] fields f y v row count small room =
    record {
      scan = Number f y v;
      later = row;
      past = [];
      index = f;
      value = v;
      path = stays;
      close = feeds_return fields f y v (omega arith);
      all = refl;
      stored = refl;
    }
further_reaches (m ∷ rest) fields f y v row count (and fits small) room =
    let size = length-append (digits_of m) (further_text rest) in
    let on = further_reaches rest fields (f + 1) (y + 1 + length (digits_of m)) m (set row f v) (omega arith) small (omega arith) in
    record {
      scan = on.scan;
      later = on.later;
      past = v ∷ on.past;
      index = on.index;
      value = on.value;
      path =
          field (feeds_comma fields f y v (omega arith) (omega arith))
          (goes_then (number_goes fields (f + 1) (y + 1) m (set row f v) fits (omega arith)) on.path);
      close = on.close;
      all = ap (λ (l : List ℕ). v ∷ l) on.all;
      stored = on.stored ∙ ap (λ (k : ℕ). sets (set row f v) k (m ∷ rest)) (add-one f);
    }

pub record_reaches : (fields : ℕ) (list row : List ℕ) → Fits fields list → Reaches fields begin 0 row (record_text list) list
unfolding record_text
record_reaches fields [] row fits = absurd (omega (arith, fits.count, fits.some))
record_reaches fields (n ∷ rest) row fits = by fits.small
  where
    by : Small (n ∷ rest) → Reaches fields begin 0 row (record_text (n ∷ rest)) (n ∷ rest)
    by (and fit small) =
        let size = length-append (digits_of n) (further_text rest) in
        let on = further_reaches rest fields 0 (0 + length (digits_of n)) n row (omega (arith, fits.count)) small (omega (arith, fits.short)) in
        record {
          scan = on.scan;
          later = on.later;
          past = on.past;
          index = on.index;
          value = on.value;
          path = goes_then (number_goes fields 0 0 n row fit (omega (arith, fits.short))) on.path;
          close = on.close;
          all = on.all;
          stored = on.stored;
        }

-- One record, with its end, read into a row of as many numbers as it has.

stored_whole : (row list : List ℕ) → length row ≡ length list → sets row 0 list ≡ list
stored_whole row list e =
    let all : 0 + length list ≡ length row = omega arith in
    sets-eq list row 0 (omega arith) ∙ (rw (all, drop-length) (append-nil list))

line_then : (list rest : List ℕ) → line_text list ++ rest ≡ record_text list ++ CR ∷ LF ∷ rest
unfolding line_text
line_then list rest = append_assoc (record_text list) (CR ∷ LF ∷ []) rest

pub record_reads_back : (fields at : ℕ) (list row rest : List ℕ) → Fits fields list
    → read_on fields at begin (line_text list ++ rest) ≡ Record (at + length (line_text list))
unfolding read_on read_from line_text
record_reads_back fields at list row rest fits =
    let to = record_reaches fields list row fits in
    let size = length-append (record_text list) (CR ∷ LF ∷ []) in
    rw (line_then list rest)
    (read_goes to.path at (CR ∷ LF ∷ rest)
    ∙ (rw (to.close, feeds_line fields) (ap Record (omega arith))))

pub row_reads_back : (fields : ℕ) (list row rest : List ℕ) → Fits fields list → length row ≡ fields
    → row_on fields begin row (line_text list ++ rest) ≡ list
unfolding row_on row_from
row_reads_back fields list row rest fits same =
    let to = record_reaches fields list row fits in
    rw (line_then list rest)
    (row_goes to.path (CR ∷ LF ∷ rest)
    ∙ (rw (to.close, feeds_line fields) (to.stored ∙ stored_whole row list (same ∙ sym fits.count))))

-- One record that the text's end ends.

pub record OpenReadsBack (fields at : ℕ) (list row : List ℕ) : Type 0 where
  pub scan : Scan
  pub reads : read_on fields at begin (record_text list) ≡ Part scan
  pub ends : ended scan fields ≡ Last
  pub holds : row_at_end fields scan (row_on fields begin row (record_text list)) ≡ list

pub open_reads_back : (fields at : ℕ) (list row : List ℕ) → Fits fields list → length row ≡ fields → OpenReadsBack fields at list row
unfolding read_on row_on row_from row_at_end ended
open_reads_back fields at list row fits same =
    let to = record_reaches fields list row fits in
    let none = append-nil (record_text list) in
    record {
      scan = to.scan;
      reads = rw none at (read_goes to.path at []);
      ends = rw to.close;
      holds =
          ap (row_at_end fields to.scan) (rw none at (row_goes to.path []))
          ∙ (rw to.close (to.stored ∙ stored_whole row list (same ∙ sym fits.count)));
    }

-- A whole text, each record with its end, and then more.

pub text_after : (fields n : ℕ) (list rest : List ℕ) → Fits fields list → text_on fields n begin (line_text list ++ rest) ≡ text_on fields (n + 1) begin rest
unfolding text_on text_from
text_after fields n list rest fits =
    let to = record_reaches fields list [] fits in
    rw (line_then list rest) (text_goes to.path n (CR ∷ LF ∷ rest) ∙ (rw (to.close, feeds_line fields)))

numbers_after : (fields : ℕ) (list rest : List ℕ) → Fits fields list → numbers_on fields begin (line_text list ++ rest) ≡ list ++ numbers_on fields begin rest
unfolding numbers_on numbers_from
numbers_after fields list rest fits =
    let to = record_reaches fields list [] fits in
    rw (line_then list rest)
    (numbers_go to.path (CR ∷ LF ∷ rest)
    ∙ (rw (to.close, feeds_line fields)
    (sym (append_assoc to.past (to.value ∷ []) (numbers_on fields begin rest)) ∙ ap (λ (l : List ℕ). l ++ numbers_on fields begin rest) to.all)))

pub texts_after : (fields n : ℕ) (rows : List (List ℕ)) (rest : List ℕ) → AllFit fields rows → text_on fields n begin (text_of rows ++ rest) ≡ text_on fields (n + length rows) begin rest
unfolding text_of
texts_after fields n [] rest none_left = ap (λ (k : ℕ). text_on fields k begin rest) (omega arith)
texts_after fields n (row ∷ rows) rest (and_then fits fit) =
    rw append_assoc
    (text_after fields n row (text_of rows ++ rest) fits ∙ texts_after fields (n + 1) rows rest fit ∙ ap (λ (k : ℕ). text_on fields k begin rest) (omega arith))

pub numbers_of_texts : (fields : ℕ) (rows : List (List ℕ)) (rest : List ℕ) → AllFit fields rows → numbers_on fields begin (text_of rows ++ rest) ≡ together rows ++ numbers_on fields begin rest
unfolding text_of together
numbers_of_texts fields [] rest none_left = refl
numbers_of_texts fields (row ∷ rows) rest (and_then fits fit) =
    rw append_assoc
    (numbers_after fields row (text_of rows ++ rest) fits ∙ ap (λ (l : List ℕ). row ++ l) (numbers_of_texts fields rows rest fit)
    ∙ sym (append_assoc row (together rows) (numbers_on fields begin rest)))

-- The text of records that fit, the last end optional, holds those records, and its numbers are theirs.

pub one_more : (rows : List (List ℕ)) (row : List ℕ) → length (rows ++ row ∷ []) ≡ length rows + 1
one_more rows row = length-append rows (row ∷ [])

pub together_one_more : (rows : List (List ℕ)) (row : List ℕ) → together (rows ++ row ∷ []) ≡ together rows ++ row
unfolding together
together_one_more [] row = append-nil row
together_one_more (first ∷ rows) row = ap (λ (l : List ℕ). first ++ l) (together_one_more rows row) ∙ sym (append_assoc first (together rows) row)

last_fits : (fields : ℕ) (rows : List (List ℕ)) (row : List ℕ) → AllFit fields (rows ++ row ∷ []) → AllFit fields rows × Fits fields row
last_fits fields [] row (and_then fits fit) = (none_left, fits)
last_fits fields (first ∷ rows) row (and_then fits fit) = let more = last_fits fields rows row fit in (and_then fits more.0, more.1)

pub no_text : (fields n : ℕ) → text_on fields n begin [] ≡ Ok n
unfolding text_on ended feed scans.at_start
no_text fields n = refl

pub no_text_numbers : (fields : ℕ) → numbers_on fields begin [] ≡ []
unfolding numbers_on numbers_from feed scans.at_start
no_text_numbers fields = refl

pub open_text : (fields n : ℕ) (list : List ℕ) → Fits fields list → text_on fields n begin (record_text list) ≡ Ok (n + 1)
unfolding text_on ended
open_text fields n list fits =
    let to = record_reaches fields list [] fits in
    (rw (append-nil (record_text list)) at (text_goes to.path n [])) ∙ (rw to.close)

pub open_numbers : (fields : ℕ) (list : List ℕ) → Fits fields list → numbers_on fields begin (record_text list) ≡ list
unfolding numbers_on numbers_from
open_numbers fields list fits =
    let to = record_reaches fields list [] fits in
    (rw (append-nil (record_text list)) at (numbers_go to.path [])) ∙ (rw to.close to.all)

pub reads_back : (fields : ℕ) (rows : List (List ℕ)) (text : List ℕ) → AllFit fields rows → TextOf rows text
    → (held fields text ≡ Ok (length rows)) × (numbers fields text ≡ together rows)
unfolding held numbers
reads_back fields rows text fit (closed all) =
    let none = append-nil (text_of all) in (
      (rw none at (texts_after fields 0 all [] fit)) ∙ no_text fields (0 + length all) ∙ ap Ok (omega arith),
      (rw (none, no_text_numbers) at (numbers_of_texts fields all [] fit)) ∙ append-nil (together all),
    )
reads_back fields rows text fit (left_open all row) =
    let parts = last_fits fields all row fit in (
      texts_after fields 0 all (record_text row) parts.0 ∙ open_text fields (0 + length all) row parts.1 ∙ ap Ok (omega (arith, one_more all row)),
      numbers_of_texts fields all (record_text row) parts.0 ∙ ap (λ (l : List ℕ). together all ++ l) (open_numbers fields row parts.1) ∙ sym (together_one_more all row),
    )

-- two such texts are equal only where their numbers are
pub text_tells : (fields : ℕ) (a b : List (List ℕ)) (text : List ℕ) → AllFit fields a → AllFit fields b → TextOf a text → TextOf b text → together a ≡ together b
text_tells fields a b text fit-a fit-b is-a is_b = sym (reads_back fields a text fit-a is-a).1 ∙ (reads_back fields b text fit-b is_b).1
