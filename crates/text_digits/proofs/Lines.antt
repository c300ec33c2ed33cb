-- The line of a record: how long it is, and how it is made number after number. Assumes nothing.
use Prim.Native.Nat.{ℕ, zero, suc, ◌+◌, ◌-◌, ◌*◌, ◌^◌, ◌≤◌, ◌<◌, zero-le}
use mathlib.Core.Path.{◌≡◌, refl, ap, sym, ◌∙◌}
use mathlib.Core.List.{List, [], ◌∷◌, ◌++◌, append_assoc}
use mathlib.Core.Bool.{true, false}
use native.Mathlib.Numerals.{add-one}
use native.Mathlib.Omega.{arith}
use borrow.Author.Tests.{le-leb, lt-leb, ne_eqb}
use lib.Dec.{leb, eqb}
use lib.ListN.{length, get_or, drop, length-append, drop_of_length-le}
use lib.Seq.{sets, drop-cons}
use Rattle.whole.specs.Search.{pick}
use Rattle.text_digits.specs.Lines.{CR, LF, COMMA, digits_of, further_text, record_text, rest_text, line_text}
use Rattle.text_digits.specs.Writes.{rest_written, after_rest}
use Rattle.text_digits.specs.Private.{separated}
use Rattle.std.specs.Prelude.{Ok}
use Rattle.whole.proofs.Tests.{same_test}
use Rattle.text_digits.proofs.Stores.{rest_of, stores_after}
use Rattle.text_digits.proofs.Digits.{at_most_20}

pub further_length : (n : ℕ) (rest : List ℕ) → length (further_text (n ∷ rest)) ≡ 1 + length (digits_of n) + length (further_text rest)
unfolding further_text
further_length n rest = omega (arith, length-append (digits_of n) (further_text rest))

no_more : length (further_text []) ≡ 0
unfolding further_text
no_more = refl

pub line_starts : (n : ℕ) (rest : List ℕ) → line_text (n ∷ rest) ≡ digits_of n ++ rest_text rest
unfolding line_text record_text rest_text
line_starts n rest = append_assoc (digits_of n) (further_text rest) (CR ∷ LF ∷ [])

pub line_goes_on : (n : ℕ) (rest : List ℕ) → rest_text (n ∷ rest) ≡ (COMMA ∷ digits_of n) ++ rest_text rest
unfolding further_text rest_text
line_goes_on n rest = append_assoc (COMMA ∷ digits_of n) (further_text rest) (CR ∷ LF ∷ [])

pub line_ends : rest_text [] ≡ CR ∷ LF ∷ []
unfolding further_text rest_text
line_ends = refl

pub empty_line : line_text [] ≡ CR ∷ LF ∷ []
unfolding line_text record_text
empty_line = refl

pub line_length : (n : ℕ) (rest : List ℕ) → length (line_text (n ∷ rest)) ≡ length (further_text (n ∷ rest)) + 1
unfolding line_text record_text
line_length n rest =
    omega (arith, length-append (digits_of n ++ further_text rest) (CR ∷ LF ∷ []), length-append (digits_of n) (further_text rest), further_length n rest)

-- with its comma a 64-bit number takes at most 21 bytes
pub at_most_21 : (l : List ℕ) → ((i : ℕ) → get_or l i 0 < 2 ^ 64) → length (further_text l) ≤ 21 * length l
unfolding further_text
at_most_21 [] fit = omega arith
at_most_21 (n ∷ rest) fit =
    omega (arith, at_most_20 n (fit 0), at_most_21 rest (λ i. fit (suc i)), length-append (digits_of n) (further_text rest))

pub line_at_most : (l : List ℕ) → ((i : ℕ) → get_or l i 0 < 2 ^ 64) → length (line_text l) ≤ 21 * length l + 2
line_at_most [] fit = rw empty_line (omega arith)
line_at_most (n ∷ rest) fit = omega (arith, line_length n rest, at_most_21 (n ∷ rest) fit)

-- what is left of a line from the number of index i on
pub line_from : List ℕ → ℕ → List ℕ
line_from numbers i = pick (eqb i 0) (line_text numbers) (rest_text (drop i numbers))

-- A line being written from the position `at` on: the numbers before index i stand in the buffer, up to the position `next`.

pub record Putting (numbers buffer₀ : List ℕ) (at : ℕ) (buffer : List ℕ) (next i : ℕ) : Type 0 where
  pub stores : sets buffer next (line_from numbers i) ≡ sets buffer₀ at (line_text numbers)
  pub ends : next + length (line_from numbers i) ≡ at + length (line_text numbers)
  pub same : length buffer ≡ length buffer₀
  pub room : at + length (line_text numbers) ≤ length buffer₀

from_the_first : (numbers : List ℕ) → line_from numbers 0 ≡ line_text numbers
unfolding line_from
from_the_first numbers = refl

from_a_later : (numbers : List ℕ) (i : ℕ) → line_from numbers (suc i) ≡ rest_text (drop (suc i) numbers)
unfolding line_from
from_a_later numbers i = rw (ne_eqb (suc i) 0 (λ e. omega (arith, e)))

pub line_begins : (numbers buffer : List ℕ) (at : ℕ) → at + length (line_text numbers) ≤ length buffer → Putting numbers buffer at buffer at 0
line_begins numbers buffer at room =
    record { stores = rw (from_the_first numbers); ends = rw (from_the_first numbers); same = refl; room = room }

left_at : (numbers : List ℕ) (i : ℕ) → i < length numbers → line_from numbers i ≡ separated i (get_or numbers i 0) ++ line_from numbers (i + 1)
unfolding separated
left_at [] i h = absurd (omega arith)
left_at (n ∷ rest) zero h = rw (from_the_first (n ∷ rest)) (line_starts n rest ∙ ap (λ (l : List ℕ). digits_of n ++ l) (sym (from_a_later (n ∷ rest) 0)))
left_at (n ∷ rest) (suc i) h =
    rw (add-one (suc i), from_a_later (n ∷ rest) i, from_a_later (n ∷ rest) (suc i), ne_eqb (suc i) 0 (λ e. omega (arith, e)))
    (ap rest_text (drop-cons (n ∷ rest) (suc i) 0 h) ∙ line_goes_on (get_or (n ∷ rest) (suc i) 0) (drop (suc (suc i)) (n ∷ rest)))

left_length : (numbers : List ℕ) (i : ℕ) → i < length numbers → length (line_from numbers i) ≡ length (separated i (get_or numbers i 0)) + length (line_from numbers (i + 1))
left_length numbers i h = rw (left_at numbers i h) (length-append (separated i (get_or numbers i 0)) (line_from numbers (i + 1)))

nothing_left : (numbers : List ℕ) (i : ℕ) → length numbers ≤ i → line_from numbers i ≡ CR ∷ LF ∷ []
nothing_left [] zero h = from_the_first [] ∙ empty_line
nothing_left (n ∷ rest) zero h = absurd (omega arith)
nothing_left numbers (suc i) h = from_a_later numbers i ∙ rw (drop_of_length-le numbers h) line_ends

module _ {numbers buffer₀ : List ℕ} {at : ℕ} {buffer : List ℕ} {next i : ℕ} where
  -- there is room for the next number, and for the end
  pub next_fits : Putting numbers buffer₀ at buffer next i → i < length numbers → next + length (separated i (get_or numbers i 0)) ≤ length buffer
  next_fits here h = omega (arith, here.ends, here.same, here.room, left_length numbers i h)

  pub next_put : Putting numbers buffer₀ at buffer next i → i < length numbers → {later : List ℕ} {after : ℕ} → after ≡ next + length (separated i (get_or numbers i 0))
      → later ≡ sets buffer next (separated i (get_or numbers i 0)) → length later ≡ length buffer → Putting numbers buffer₀ at later after (i + 1)
  next_put here h n e same =
      record {
        stores = rw (e, n) (sym (stores_after buffer next (separated i (get_or numbers i 0)) (line_from numbers (i + 1))) ∙ (rw (left_at numbers i h) at here.stores));
        ends = rw n (omega (arith, here.ends, left_length numbers i h));
        same = same ∙ here.same;
        room = here.room;
      }

  pub end_fits : Putting numbers buffer₀ at buffer next i → length numbers ≤ i → next + 2 ≤ length buffer
  end_fits here h = omega (arith, rw (nothing_left numbers i h) at here.ends, here.same, here.room)

  pub end_put : Putting numbers buffer₀ at buffer next i → length numbers ≤ i → {later : List ℕ} {after : ℕ} → after ≡ next + 2 → later ≡ sets buffer next (CR ∷ LF ∷ [])
      → (after ≡ at + length (line_text numbers)) × (later ≡ sets buffer₀ at (line_text numbers))
  end_put here h n e = (n ∙ (rw (nothing_left numbers i h) at here.ends), e ∙ (rw (nothing_left numbers i h) at here.stores))

-- Numbers that each follow a comma, written one by one from the position `at` on: those from index i on and the end are still to come.

pub record Resting (numbers buffer₀ : List ℕ) (at : ℕ) (buffer : List ℕ) (next i : ℕ) : Type 0 where
  pub stores : sets buffer next (rest_text (drop i numbers)) ≡ sets buffer₀ at (rest_text numbers)
  pub ends : next + length (rest_text (drop i numbers)) ≡ at + length (rest_text numbers)
  pub short : next ≤ at + 21 * i

module _ {numbers buffer₀ : List ℕ} {at : ℕ} {buffer : List ℕ} {next i : ℕ} where
  pub further_put : Resting numbers buffer₀ at buffer next i → i < length numbers → {later : List ℕ} {after : ℕ} → after ≡ next + length (COMMA ∷ digits_of (get_or numbers i 0))
      → after ≤ next + 21 → later ≡ sets buffer next (COMMA ∷ digits_of (get_or numbers i 0)) → Resting numbers buffer₀ at later after (i + 1)
  further_put here h e most s =
      let n = get_or numbers i 0 in
      let rest = drop (i + 1) numbers in
      let left : rest_text (drop i numbers) ≡ (COMMA ∷ digits_of n) ++ rest_text rest = rw (rest_of numbers i h) (line_goes_on n rest) in
      record {
        stores = rw (s, e) (sym (stores_after buffer next (COMMA ∷ digits_of n) (rest_text rest)) ∙ (rw left at here.stores));
        ends = rw e (omega (arith, length-append (COMMA ∷ digits_of n) (rest_text rest), rw left at here.ends));
        short = omega (arith, here.short, most);
      }

  pub rest_ends : Resting numbers buffer₀ at buffer next i → length numbers ≤ i → {later : List ℕ} {after : ℕ} → after ≡ next + 2 → later ≡ sets buffer next (CR ∷ LF ∷ [])
      → (after ≡ at + length (rest_text numbers)) × (later ≡ sets buffer₀ at (rest_text numbers))
  rest_ends here h e s =
      let nothing : rest_text (drop i numbers) ≡ CR ∷ LF ∷ [] = rw (drop_of_length-le numbers h) line_ends in
      (e ∙ (rw nothing at here.ends), s ∙ (rw nothing at here.stores))

-- a record of no numbers
pub no_numbers : (numbers : List ℕ) → length numbers ≡ 0 → line_text numbers ≡ CR ∷ LF ∷ []
no_numbers [] e = empty_line
no_numbers (n ∷ rest) e = let z : ◌≡◌ {A = ℕ} 0 1 = omega (arith, e) in absurd (omega arith)

pub some_numbers : (numbers : List ℕ) → (length numbers ≡ 0 → ⊥) → length (line_text numbers) ≡ length (further_text numbers) + 1
some_numbers [] some = absurd (some refl)
some_numbers (n ∷ rest) some = line_length n rest

-- Numbers that each follow a comma, being counted: what is left of them fits the room that is left where all fit all of it.

further_left : (numbers : List ℕ) (i : ℕ) → i < length numbers
    → length (further_text (drop i numbers)) ≡ 1 + length (digits_of (get_or numbers i 0)) + length (further_text (drop (i + 1) numbers))
further_left numbers i h = rw (rest_of numbers i h) (further_length (get_or numbers i 0) (drop (i + 1) numbers))

pub record Counting (numbers : List ℕ) (room left i : ℕ) : Type 0 where
  pub answer : leb (length (further_text (drop i numbers))) left ≡ leb (length (further_text numbers)) room
  pub reaches : i ≤ length numbers

pub counts : (numbers : List ℕ) (room : ℕ) → Counting numbers room room 0
counts numbers room = record { answer = refl; reaches = zero-le }

module _ {numbers : List ℕ} {room left i : ℕ} where
  pub count_on : Counting numbers room left i → i < length numbers → (taken : ℕ) → taken ≡ length (digits_of (get_or numbers i 0)) → taken < left
      → Counting numbers room (left - taken - 1) (i + 1)
  count_on here h taken e more =
      let step = further_left numbers i h in
      record {
        answer =
            same_test (length (further_text (drop (i + 1) numbers))) (left - taken - 1) (length (further_text (drop i numbers))) left (λ fit. omega (arith, step)) (λ fit. omega (arith, step))
            ∙ here.answer;
        reaches = omega arith;
      }

  pub count_over : Counting numbers room left i → i < length numbers → (taken : ℕ) → taken ≡ length (digits_of (get_or numbers i 0)) → left ≤ taken
      → false ≡ leb (length (further_text numbers)) room
  count_over here h taken e over =
      sym (lt-leb (length (further_text (drop i numbers))) left (omega (arith, further_left numbers i h))) ∙ here.answer

  pub count_done : Counting numbers room left i → length numbers ≤ i → true ≡ leb (length (further_text numbers)) room
  count_done here h =
      let none : length (further_text (drop i numbers)) ≡ 0 = rw (drop_of_length-le numbers h) no_more in
      sym (le-leb (length (further_text (drop i numbers))) left (omega arith)) ∙ here.answer

pub at_least_2 : (numbers : List ℕ) → 2 ≤ length (line_text numbers)
unfolding line_text
at_least_2 numbers = omega (arith, length-append (record_text numbers) (CR ∷ LF ∷ []))

-- the rest of a line, where a buffer has room for it
pub rest_fits : (buffer bytes : List ℕ) (at : ℕ) → at + 128 ≤ length buffer → (rest_written buffer at bytes ≡ Ok (at + length bytes)) × (after_rest buffer at bytes ≡ sets buffer at bytes)
unfolding rest_written after_rest
rest_fits buffer bytes at has = (rw (le-leb (at + 128) (length buffer) has), rw (le-leb (at + 128) (length buffer) has))
