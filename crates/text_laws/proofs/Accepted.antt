-- What is accepted is the text of what was read, and the record that is refused is the first that breaks. Assumes nothing.
use Prim.Native.Nat.{ℕ, suc, ◌+◌, ◌-◌, ◌*◌, ◌/◌, ◌%◌, ◌≤◌, ◌<◌, zero-le}
use mathlib.Core.Path.{◌≡◌, refl, ap, sym, subst, ◌∙◌}
use mathlib.Core.List.{List, [], ◌∷◌, ◌++◌, append_assoc, append-nil}
use native.Mathlib.Nat.{suc-mul}
use native.Mathlib.Omega.{arith}
use borrow.Author.Tests.{ne_eqb}
use lib.ListN.{length, length-append}
use Rattle.text_digits.proofs.Digits.{one_digit, more_digits_lem}
use Rattle.text_digits.specs.Lines.{LF, CR, COMMA, DIGIT, digits_of, further_text, record_text, line_text}
use Rattle.text_laws.proofs.Fed.{Fed, first_digit, next_digit, comma, return, line, breaks, fed}
use Rattle.text_laws.proofs.ReadBack.{one_more, together_one_more, no_text, open_text, text_after}
use Rattle.text_records.specs.Texts.{text_of, Small, none, and, Fits, AllFit, none_left, and_then, TextOf, closed, left_open, together}
use Rattle.text_scans.specs.Scans.{LARGEST, LONGEST, begin, feed, ended}
use Rattle.text_scans.specs.Scans as scans
use Rattle.text_records.specs.Reads.{Text, broken_at, text_at_end, text_from, text_on, numbers_from, numbers_on, held, numbers}
use Rattle.text_scans.specs.declared.Scan.{Scan}
use Rattle.text_scans.specs.declared.Scan.TheVariants.{Start, Number, Return}
use Rattle.text_scans.specs.declared.Step.{Step}
use Rattle.text_scans.specs.declared.Step.TheVariants.{More, Field, Complete, Breaks}
use Rattle.text_scans.specs.declared.End.{End}
use Rattle.text_scans.specs.declared.End.TheVariants.{Nothing, Last, Cut}
use Rattle.std.specs.Prelude.{Ok}

-- numbers that each have a comma after them
unfoldable pub start_text : List ℕ → List ℕ
start_text [] = []
start_text (n ∷ rest) = digits_of n ++ COMMA ∷ start_text rest

start_and : (ns : List ℕ) (v : ℕ) → start_text (ns ++ v ∷ []) ≡ (start_text ns ++ digits_of v) ++ COMMA ∷ []
unfolding start_text
start_and [] v = refl
start_and (n ∷ ns) v =
    ap (λ (l : List ℕ). digits_of n ++ COMMA ∷ l) (start_and ns v)
    ∙ (rw (append_assoc (digits_of n) (COMMA ∷ start_text ns) (digits_of v), append_assoc (digits_of n) (COMMA ∷ (start_text ns ++ digits_of v)) (COMMA ∷ [])))

further_and : (ns : List ℕ) (v : ℕ) → further_text (ns ++ v ∷ []) ≡ COMMA ∷ (start_text ns ++ digits_of v)
unfolding further_text start_text
further_and [] v = ap (λ (l : List ℕ). COMMA ∷ l) (append-nil (digits_of v))
further_and (n ∷ ns) v =
    ap (λ (l : List ℕ). COMMA ∷ digits_of n ++ l) (further_and ns v)
    ∙ ap (λ (l : List ℕ). COMMA ∷ l) (sym (append_assoc (digits_of n) (COMMA ∷ start_text ns) (digits_of v)))

pub record_and : (ns : List ℕ) (v : ℕ) → record_text (ns ++ v ∷ []) ≡ start_text ns ++ digits_of v
unfolding record_text start_text further_text
record_and [] v = append-nil (digits_of v)
record_and (n ∷ ns) v =
    ap (λ (l : List ℕ). digits_of n ++ l) (further_and ns v) ∙ sym (append_assoc (digits_of n) (COMMA ∷ start_text ns) (digits_of v))

small_and : (ns : List ℕ) (v : ℕ) → Small ns → v ≤ LARGEST → Small (ns ++ v ∷ [])
small_and [] v none fits = and fits none
small_and (n ∷ ns) v (and fit small) fits = and fit (small_and ns v small fits)

digit_after : (v d : ℕ) → (v ≡ 0 → ⊥) → d < 10 → digits_of (v * 10 + d) ≡ digits_of v ++ (DIGIT + d) ∷ []
digit_after v d some digit =
    let tenth : (v * 10 + d) / 10 ≡ v = omega arith in
    let last : (v * 10 + d) % 10 ≡ d = omega arith in
    more_digits_lem (v * 10 + d) (omega (arith, some)) ∙ (rw (tenth, last))

-- Where the reading stands says which bytes of the record are read, and which numbers are complete.
pub data SoFar (fields : ℕ) : Scan → List ℕ → List ℕ → Type 0 where
  at_start_lem : {f y : ℕ} {pre ns : List ℕ} → pre ≡ start_text ns → f ≡ length ns → y ≡ length pre → y ≤ LONGEST → Small ns → SoFar fields (Start f y) pre ns
  in_number_lem : {f y v : ℕ} {pre ns : List ℕ} → pre ≡ start_text ns ++ digits_of v → f ≡ length ns → y ≡ length pre → y ≤ LONGEST → v ≤ LARGEST → Small ns
      → SoFar fields (Number f y v) pre ns
  at_return : {pre row : List ℕ} → pre ≡ record_text row ++ CR ∷ [] → Fits fields row → SoFar fields Return pre row

unfoldable pub After : ℕ → Step → List ℕ → ℕ → List ℕ → Type 0
After fields (More t) pre b ns = SoFar fields t (pre ++ b ∷ []) ns
After fields (Field f v t) pre b ns = SoFar fields t (pre ++ b ∷ []) (ns ++ v ∷ [])
After fields Complete pre b ns = (pre ++ b ∷ [] ≡ line_text ns) × Fits fields ns
After fields Breaks pre b ns = Unit {0}

longer_by_one : (pre : List ℕ) (b : ℕ) → length (pre ++ b ∷ []) ≡ length pre + 1
longer_by_one pre b = length-append pre (b ∷ [])

-- a last field makes a record that fits
pub closes : {fields f y v : ℕ} {pre ns : List ℕ} → pre ≡ start_text ns ++ digits_of v → f ≡ length ns → y ≡ length pre → y ≤ LONGEST → v ≤ LARGEST → Small ns
    → f + 1 ≡ fields → Fits fields (ns ++ v ∷ [])
closes {v = v} {ns = ns} is count size short fits small last =
    record {
      some = omega arith;
      count = omega (arith, length-append ns (v ∷ []));
      small = small_and ns v small fits;
      short = rw (record_and ns v) (rw (sym is) (omega arith));
    }

pub one_byte_on : {fields : ℕ} {s : Scan} {pre ns : List ℕ} {b : ℕ} {step : Step} → SoFar fields s pre ns → Fed fields s b step → After fields step pre b ns
unfolding After line_text
one_byte_on {fields} {pre = pre} {ns = ns} {b = b} (at_start_lem {f} {y} is count size short small) (first_digit low high room) = on
  where
    byte : DIGIT + (b - DIGIT) ≡ b
    byte = omega arith

    on : SoFar fields (Number f (y + 1) (b - DIGIT)) (pre ++ b ∷ []) ns
    on = in_number_lem {y = y + 1} {v = b - DIGIT} {pre = pre ++ b ∷ []} {ns = ns} (rw (is, one_digit (b - DIGIT) (omega arith), byte)) count (omega (arith, longer_by_one pre b)) (omega arith) (omega arith) small
one_byte_on {fields} {pre = pre} {ns = ns} {b = b} (in_number_lem {f} {y} {v} is count size short fits small) (next_digit low high some fit room) = on
  where
    byte : DIGIT + (b - DIGIT) ≡ b
    byte = omega arith

    on : SoFar fields (Number f (y + 1) (v * 10 + (b - DIGIT))) (pre ++ b ∷ []) ns
    on =
        in_number_lem {y = y + 1} {v = v * 10 + (b - DIGIT)} {pre = pre ++ b ∷ []} {ns = ns} (rw (is, digit_after v (b - DIGIT) some (omega arith), byte) (append_assoc (start_text ns) (digits_of v) (b ∷ []))) count
        (omega (arith, longer_by_one pre b)) (omega arith) fit small
one_byte_on {fields} {pre = pre} {ns = ns} {b = b} (in_number_lem {f} {y} {v} is count size short fits small) (comma e more room) = on
  where
    on : SoFar fields (Start (f + 1) (y + 1)) (pre ++ b ∷ []) (ns ++ v ∷ [])
    on =
        at_start_lem {f = f + 1} {y = y + 1} {pre = pre ++ b ∷ []} {ns = ns ++ v ∷ []} (rw (e, is) (sym (start_and ns v))) (omega (arith, length-append ns (v ∷ []))) (omega (arith, longer_by_one pre b)) (omega arith)
        (small_and ns v small fits)
one_byte_on {fields} {pre = pre} {ns = ns} {b = b} (in_number_lem {f} {y} {v} is count size short fits small) (return e last) = on
  where
    on : SoFar fields Return (pre ++ b ∷ []) (ns ++ v ∷ [])
    on = at_return {pre = pre ++ b ∷ []} {row = ns ++ v ∷ []} (rw (e, is, record_and ns v)) (closes is count size short fits small last)
one_byte_on {pre = pre} {b = b} (at_return {row = row} is fits) (line e) = (rw (e, is) (append_assoc (record_text row) (CR ∷ []) (LF ∷ [])), fits)
one_byte_on so breaks = tt

-- Any text is records that fit, each with its end, and then a rest: nothing; one more record that fits; or bytes whose first
-- record breaks. The answer is settled by which, with n records complete before the text.

pub data Tail (fields n : ℕ) (rest : List ℕ) (answer : Text) (list : List ℕ) : Type 0 where
  nothing : rest ≡ [] → answer ≡ Ok n → list ≡ [] → Tail fields n rest answer list
  last : (row : List ℕ) → Fits fields row → rest ≡ record_text row → answer ≡ Ok (n + 1) → list ≡ row → Tail fields n rest answer list
  broken : held fields rest ≡ broken_at 1 → answer ≡ broken_at (n + 1) → Tail fields n rest answer list

pub record Parts (fields n : ℕ) (text : List ℕ) (answer : Text) (list : List ℕ) : Type 0 where
  pub rows : List (List ℕ)
  pub rest : List ℕ
  pub left : List ℕ
  pub fit : AllFit fields rows
  pub is : text ≡ text_of rows ++ rest
  pub read : list ≡ together rows ++ left
  pub tail : Tail fields (n + length rows) rest answer left

-- the bytes of a record so far lead from its start to where the reading stands
abbrev Leads : ℕ → List ℕ → Scan → Type 0
Leads fields pre s = (k : ℕ) (rest : List ℕ) → text_on fields k begin (pre ++ rest) ≡ text_on fields k s rest

abbrev Told : ℕ → List ℕ → Type 0
Told fields bytes =
    (n : ℕ) (s : Scan) (pre ns : List ℕ) → SoFar fields s pre ns → Leads fields pre s → Parts fields n (pre ++ bytes) (text_on fields n s bytes) (ns ++ numbers_on fields s bytes)

-- no record before the rest
no_rows : {fields n : ℕ} {rest list : List ℕ} {answer : Text} → ((k : ℕ) → n ≡ k → Tail fields k rest answer list) → Parts fields n rest answer list
unfolding text_of together
no_rows {fields} {n} tail =
    record { rows = []; rest = _; left = _; fit = none_left; is = refl; read = refl; tail = tail (n + 0) (omega arith) }

breaks_here : {fields : ℕ} (n : ℕ) (pre bytes list : List ℕ) (s : Scan) → Leads fields pre s → ((k : ℕ) → text_on fields k s bytes ≡ broken_at (k + 1))
    → Parts fields n (pre ++ bytes) (text_on fields n s bytes) list
unfolding held
breaks_here n pre bytes list s leads stops =
    no_rows λ k e. broken (leads 0 bytes ∙ stops 0) (stops n ∙ ap (λ (m : ℕ). broken_at (m + 1)) e)

at_end : (fields : ℕ) → Told fields []
unfolding text_on numbers_on numbers_from ended feed scans.at_start start_text
at_end fields n (Start f y) pre [] (at_start_lem is count size short small) leads =
    rw (append-nil pre) (no_rows λ k e. nothing is (rw count (ap Ok e)) refl)
at_end fields n (Start f y) pre (m ∷ ns) (at_start_lem is count size short small) leads =
    breaks_here n pre [] _ (Start f y) leads λ k. rw (ne_eqb f 0 (λ z. omega arith))
at_end fields n (Number f y v) pre ns (in_number_lem is count size short fits small) leads = by (feed (Number f y v) CR fields) (fed fields (Number f y v) CR) refl
  where
    by : (step : Step) → Fed fields (Number f y v) CR step → feed (Number f y v) CR fields ≡ step
        → Parts fields n (pre ++ []) (text_at_end (scans.last_field step Cut) n) (ns ++ numbers_from step (λ next. []) [])
    by step (next_digit low high some fit room) e = absurd (omega arith)
    by step (comma is-comma more room) e = absurd (omega arith)
    by step (return is-return is_last) e =
        rw (append-nil pre)
        (no_rows λ k same. last (ns ++ v ∷ []) (closes is count size short fits small is_last) (is ∙ sym (record_and ns v)) (ap (λ (m : ℕ). Ok (m + 1)) same) refl)
    by step breaks e = stops (breaks_here n pre [] (ns ++ []) (Number f y v) leads (λ k. rw e))
      where
        stops : Parts fields n (pre ++ []) (text_on fields n (Number f y v) []) (ns ++ []) → Parts fields n (pre ++ []) (broken_at (n + 1)) (ns ++ [])
        stops parts = rw e at parts
at_end fields n Return pre row (at_return is fits) leads = breaks_here n pre [] _ Return leads λ k. refl

pub nothing_yet : (fields : ℕ) → SoFar fields begin [] []
unfolding start_text
nothing_yet fields = at_start_lem {f = 0} {y = 0} {pre = []} {ns = []} refl refl refl zero-le none

at_byte : (fields b : ℕ) (bytes : List ℕ) → Told fields bytes → Told fields (b ∷ bytes)
unfolding text_on text_from numbers_on numbers_from After text_of together
at_byte fields b bytes told n s pre ns so leads = by (feed s b fields) (one_byte_on so (fed fields s b)) refl
  where
    on : (rest : List ℕ) → (pre ++ b ∷ []) ++ rest ≡ pre ++ b ∷ rest
    on rest = append_assoc pre (b ∷ []) rest

    by : (step : Step) → After fields step pre b ns → feed s b fields ≡ step
        → Parts fields n (pre ++ b ∷ bytes) (text_from step (λ next. text_on fields n next bytes) (text_on fields (n + 1) begin bytes) n)
        (ns ++ numbers_from step (λ next. numbers_on fields next bytes) (numbers_on fields begin bytes))
    by (More t) next e =
        rw (on bytes) at (told n t (pre ++ b ∷ []) ns next λ k rest. rw (on rest) (leads k (b ∷ rest) ∙ (rw e)))
    by (Field f v t) next e =
        rw (on bytes, append_assoc ns (v ∷ []) (numbers_on fields t bytes)) at
        (told n t (pre ++ b ∷ []) (ns ++ v ∷ []) next λ k rest. rw (on rest) (leads k (b ∷ rest) ∙ (rw e)))
    by Complete next e = whole (told (n + 1) begin [] [] (nothing_yet fields) λ k rest. refl)
      where
        whole : Parts fields (n + 1) bytes (text_on fields (n + 1) begin bytes) (numbers_on fields begin bytes)
            → Parts fields n (pre ++ b ∷ bytes) (text_on fields (n + 1) begin bytes) (ns ++ numbers_on fields begin bytes)
        whole parts =
            let count : n + 1 + length parts.rows ≡ n + suc (length parts.rows) = omega arith in
            record {
              rows = ns ∷ parts.rows;
              rest = parts.rest;
              left = parts.left;
              fit = and_then next.1 parts.fit;
              is =
                  sym (on bytes) ∙ ap (λ (l : List ℕ). l ++ bytes) next.0 ∙ ap (λ (l : List ℕ). line_text ns ++ l) parts.is
                  ∙ sym (append_assoc (line_text ns) (text_of parts.rows) parts.rest);
              read = ap (λ (l : List ℕ). ns ++ l) parts.read ∙ sym (append_assoc ns (together parts.rows) parts.left);
              tail = rw count at parts.tail;
            }
    by Breaks next e = rw e at (breaks_here n pre (b ∷ bytes) (ns ++ []) s leads (λ k. rw e))

pub told : (fields : ℕ) (bytes : List ℕ) → Told fields bytes
told fields [] = at_end fields
told fields (b ∷ bytes) = at_byte fields b bytes (told fields bytes)

pub every_text : (fields : ℕ) (text : List ℕ) → Parts fields 0 text (held fields text) (numbers fields text)
unfolding held numbers
every_text fields text = told fields text 0 begin [] [] (nothing_yet fields) λ k rest. refl

-- A text that is accepted is the text of records that fit, the last end optional, and what was read are their numbers.

pub record IsText (fields : ℕ) (text : List ℕ) (n : ℕ) : Type 0 where
  pub rows : List (List ℕ)
  pub fit : AllFit fields rows
  pub count : n ≡ length rows
  pub is : TextOf rows text
  pub read : numbers fields text ≡ together rows

fit_and : {fields : ℕ} {row : List ℕ} (rows : List (List ℕ)) → AllFit fields rows → Fits fields row → AllFit fields (rows ++ row ∷ [])
fit_and [] none_left fits = and_then fits none_left
fit_and (first ∷ rows) (and_then fit rest) fits = and_then fit (fit_and rows rest fits)

same_count : {n m : ℕ} → ◌≡◌ {A = Text} (Ok n) (Ok m) → n ≡ m
same_count e = cc

not_broken : {n m : ℕ} → Ok n ≡ broken_at m → ⊥
not_broken e = let z : ◌≡◌ {A = ℕ} 0 1 = cc in omega arith

pub accepted : (fields : ℕ) (text : List ℕ) (n : ℕ) → held fields text ≡ Ok n → IsText fields text n
accepted fields text n holds = by (every_text fields text)
  where
    by : Parts fields 0 text (held fields text) (numbers fields text) → IsText fields text n
    by parts = with_tail parts.tail
      where
        with_tail : Tail fields (0 + length parts.rows) parts.rest (held fields text) parts.left → IsText fields text n
        with_tail (nothing none-left-over answer no_numbers) =
            record {
              rows = parts.rows;
              fit = parts.fit;
              count = same_count (sym holds ∙ answer) ∙ (omega arith);
              is = subst (TextOf parts.rows) (sym (parts.is ∙ ap (λ (l : List ℕ). text_of parts.rows ++ l) none-left-over ∙ append-nil (text_of parts.rows))) (closed parts.rows);
              read = parts.read ∙ ap (λ (l : List ℕ). together parts.rows ++ l) no_numbers ∙ append-nil (together parts.rows);
            }
        with_tail (last row fits is answer its) =
            record {
              rows = parts.rows ++ row ∷ [];
              fit = fit_and parts.rows parts.fit fits;
              count = same_count (sym holds ∙ answer) ∙ (omega (arith, one_more parts.rows row));
              is = subst (TextOf (parts.rows ++ row ∷ [])) (sym (parts.is ∙ ap (λ (l : List ℕ). text_of parts.rows ++ l) is)) (left_open parts.rows row);
              read = parts.read ∙ ap (λ (l : List ℕ). together parts.rows ++ l) its ∙ sym (together_one_more parts.rows row);
            }
        with_tail (broken first answer) = absurd (not_broken (sym holds ∙ answer))

-- A text that is refused starts with records that fit, each with its end, one fewer than the refused record's number. What is
-- left is not nothing, not one more record that fits, and not such a record with its end and more.

pub record IsBroken (fields : ℕ) (text : List ℕ) (place : ℕ) : Type 0 where
  pub rows : List (List ℕ)
  pub rest : List ℕ
  pub fit : AllFit fields rows
  pub left : List ℕ
  pub is : text ≡ text_of rows ++ rest
  pub read : numbers fields text ≡ together rows ++ left
  pub count : place ≡ length rows + 1
  pub something : rest ≡ [] → ⊥
  pub not_last : (row : List ℕ) → Fits fields row → rest ≡ record_text row → ⊥
  pub not_first : (row more : List ℕ) → Fits fields row → rest ≡ line_text row ++ more → ⊥

same_place : {n m : ℕ} → broken_at n ≡ broken_at m → n ≡ m
same_place e = cc

breaks_later : (fields n place : ℕ) (s : Scan) (bytes : List ℕ) → text_on fields n s bytes ≡ broken_at place → n < place
unfolding text_on text_from
breaks_later fields n place s [] e = by (ended s fields) e
  where
    by : (end : End) → text_at_end end n ≡ broken_at place → n < place
    by Nothing e = absurd (not_broken e)
    by Last e = absurd (not_broken e)
    by Cut e = omega (arith, same_place e)
breaks_later fields n place s (b ∷ bytes) e =
    by (feed s b fields) (λ next h. breaks_later fields n place next bytes h) (λ h. breaks_later fields (n + 1) place begin bytes h) e
  where
    by : (step : Step) → ((next : Scan) → text_on fields n next bytes ≡ broken_at place → n < place) → (text_on fields (n + 1) begin bytes ≡ broken_at place → n + 1 < place)
        → text_from step (λ next. text_on fields n next bytes) (text_on fields (n + 1) begin bytes) n ≡ broken_at place → n < place
    by (More t) on another e = on t e
    by (Field f v t) on another e = on t e
    by Complete on another e = omega (arith, another e)
    by Breaks on another e = omega (arith, same_place e)

pub refused : (fields : ℕ) (text : List ℕ) (place : ℕ) → held fields text ≡ broken_at place → IsBroken fields text place
unfolding held
refused fields text place breaks-at = by (every_text fields text)
  where
    by : Parts fields 0 text (held fields text) (numbers fields text) → IsBroken fields text place
    by parts = with_tail parts.tail
      where
        with_tail : Tail fields (0 + length parts.rows) parts.rest (held fields text) parts.left → IsBroken fields text place
        with_tail (nothing none-left-over answer no_numbers) = absurd (not_broken (sym answer ∙ breaks-at))
        with_tail (last row fits is answer its) = absurd (not_broken (sym answer ∙ breaks-at))
        with_tail (broken first answer) =
            record {
              rows = parts.rows;
              rest = parts.rest;
              fit = parts.fit;
              left = parts.left;
              is = parts.is;
              read = parts.read;
              count = same_place (sym breaks-at ∙ answer) ∙ (omega arith);
              something = λ none. not_broken (sym (no_text fields 0) ∙ ap (held fields) (sym none) ∙ first);
              not_last = λ row fits is. not_broken (sym (open_text fields 0 row fits) ∙ ap (held fields) (sym is) ∙ first);
              not_first = λ row more fits is. omega (arith, breaks_later fields 1 1 begin more (sym (text_after fields 0 row more fits) ∙ ap (held fields) (sym is) ∙ first));
            }

-- records that fit have as many numbers as fields
pub numbers_in_all : (fields : ℕ) (rows : List (List ℕ)) → AllFit fields rows → length (together rows) ≡ length rows * fields
unfolding together
numbers_in_all fields [] none_left = omega arith
numbers_in_all fields (row ∷ rows) (and_then fits fit) =
    length-append row (together rows) ∙ (rw (fits.count, numbers_in_all fields rows fit) (omega (arith, suc-mul (length rows) fields)))

pub accepted_count : (fields : ℕ) (text : List ℕ) (n : ℕ) → held fields text ≡ Ok n → length (numbers fields text) ≡ n * fields
accepted_count fields text n holds =
    let its = accepted fields text n holds in
    ap length its.read ∙ numbers_in_all fields its.rows its.fit ∙ ap (λ (k : ℕ). k * fields) (sym its.count)
