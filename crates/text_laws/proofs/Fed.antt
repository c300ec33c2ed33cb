-- What a byte does, by cases, both ways: each case from the byte, and the byte from each case. Assumes nothing.
use Prim.Native.Nat.{ℕ, ◌+◌, ◌-◌, ◌*◌, ◌≤◌, ◌<◌}
use mathlib.Core.Path.{◌≡◌, refl, ap}
use mathlib.Core.Bool.{Bool, true, false, ◌&&◌, not}
use native.Mathlib.Omega.{arith}
use borrow.Author.Tests.{lt-ltb, le-leb, eq-eqb, ne_eqb, ltb-true, leb-true, eqb-true, eqb-false, not-true}
use lib.Dec.{leb, ltb, eqb}
use Rattle.whole.specs.Search.{pick}
use Rattle.text_digits.specs.Lines.{LF, CR, COMMA, DIGIT}
use Rattle.whole.proofs.Tests.{both_hold}
use Rattle.text_scans.specs.Scans.{LARGEST, LONGEST, is_digit, at_start, longer, in_number, feed}
use Rattle.text_scans.specs.declared.Scan.{Scan}
use Rattle.text_scans.specs.declared.Scan.TheVariants.{Start, Number, Return}
use Rattle.text_scans.specs.declared.Step.{Step}
use Rattle.text_scans.specs.declared.Step.TheVariants.{More, Field, Complete, Breaks}

pub data Fed (fields : ℕ) : Scan → ℕ → Step → Type 0 where
  first_digit : {f y b : ℕ} → DIGIT ≤ b → b ≤ DIGIT + 9 → y < LONGEST → Fed fields (Start f y) b (More (Number f (y + 1) (b - DIGIT)))
  next_digit : {f y v b : ℕ} → DIGIT ≤ b → b ≤ DIGIT + 9 → (v ≡ 0 → ⊥) → v * 10 + (b - DIGIT) ≤ LARGEST → y < LONGEST
      → Fed fields (Number f y v) b (More (Number f (y + 1) (v * 10 + (b - DIGIT))))
  comma : {f y v b : ℕ} → b ≡ COMMA → f + 1 < fields → y < LONGEST → Fed fields (Number f y v) b (Field f v (Start (f + 1) (y + 1)))
  return : {f y v b : ℕ} → b ≡ CR → f + 1 ≡ fields → Fed fields (Number f y v) b (Field f v Return)
  line : {b : ℕ} → b ≡ LF → Fed fields Return b Complete
  breaks : {s : Scan} {b : ℕ} → Fed fields s b Breaks

-- the case from the byte
pub fed : (fields : ℕ) (s : Scan) (b : ℕ) → Fed fields s b (feed s b fields)
unfolding feed at_start longer in_number
fed fields (Start f y) b = by (is_digit b && ltb y LONGEST) refl
  where
    by : (t : Bool) → (is_digit b && ltb y LONGEST) ≡ t → Fed fields (Start f y) b (pick t (More (Number f (y + 1) (b - DIGIT))) Breaks)
    by true e =
        let parts = both_hold (is_digit b) (ltb y LONGEST) e in
        let digit = both_hold (leb 48 b) (leb b 57) parts.0 in
        first_digit (leb-true 48 b digit.0) (leb-true b 57 digit.1) (ltb-true y 16384 parts.1)
    by false e = breaks
fed fields (Number f y v) b = by (is_digit b) refl
  where
    longer_by : (t : Bool) → ((not (eqb v 0) && leb (v * 10 + (b - DIGIT)) LARGEST) && ltb y LONGEST) ≡ t → DIGIT ≤ b → b ≤ DIGIT + 9
        → Fed fields (Number f y v) b (pick t (More (Number f (y + 1) (v * 10 + (b - DIGIT)))) Breaks)
    longer_by true e low high =
        let parts = both_hold (not (eqb v 0) && leb (v * 10 + (b - DIGIT)) LARGEST) (ltb y LONGEST) e in
        let number = both_hold (not (eqb v 0)) (leb (v * 10 + (b - DIGIT)) LARGEST) parts.0 in
        next_digit low high (eqb-false v 0 (not-true (eqb v 0) number.0)) (leb-true (v * 10 + (b - DIGIT)) 4294967295 number.1) (ltb-true y 16384 parts.1)
    longer_by false e low high = breaks

    return_by : (t : Bool) → (eqb b CR && eqb (f + 1) fields) ≡ t → Fed fields (Number f y v) b (pick t (Field f v Return) Breaks)
    return_by true e =
        let parts = both_hold (eqb b CR) (eqb (f + 1) fields) e in
        return (eqb-true b 13 parts.0) (eqb-true (f + 1) fields parts.1)
    return_by false e = breaks

    comma_by : (t : Bool) → ((eqb b COMMA && ltb (f + 1) fields) && ltb y LONGEST) ≡ t
        → Fed fields (Number f y v) b (pick t (Field f v (Start (f + 1) (y + 1))) (pick (eqb b CR && eqb (f + 1) fields) (Field f v Return) Breaks))
    comma_by true e =
        let parts = both_hold (eqb b COMMA && ltb (f + 1) fields) (ltb y LONGEST) e in
        let place = both_hold (eqb b COMMA) (ltb (f + 1) fields) parts.0 in
        comma (eqb-true b 44 place.0) (ltb-true (f + 1) fields place.1) (ltb-true y 16384 parts.1)
    comma_by false e = return_by (eqb b CR && eqb (f + 1) fields) refl

    by : (t : Bool) → is_digit b ≡ t
        → Fed fields (Number f y v) b
        (pick t (pick ((not (eqb v 0) && leb (v * 10 + (b - DIGIT)) LARGEST) && ltb y LONGEST) (More (Number f (y + 1) (v * 10 + (b - DIGIT)))) Breaks)
        (pick ((eqb b COMMA && ltb (f + 1) fields) && ltb y LONGEST) (Field f v (Start (f + 1) (y + 1)))
        (pick (eqb b CR && eqb (f + 1) fields) (Field f v Return) Breaks)))
    by true e =
        let digit = both_hold (leb 48 b) (leb b 57) e in
        longer_by ((not (eqb v 0) && leb (v * 10 + (b - DIGIT)) LARGEST) && ltb y LONGEST) refl (leb-true 48 b digit.0) (leb-true b 57 digit.1)
    by false e = comma_by ((eqb b COMMA && ltb (f + 1) fields) && ltb y LONGEST) refl
fed fields Return b = by (eqb b LF) refl
  where
    by : (t : Bool) → eqb b LF ≡ t → Fed fields Return b (pick t Complete Breaks)
    by true e = line (eqb-true b 10 e)
    by false e = breaks

-- the byte from the case
pub feeds_first : (fields f y d : ℕ) → d < 10 → y < LONGEST → feed (Start f y) (DIGIT + d) fields ≡ More (Number f (y + 1) d)
unfolding feed at_start
feeds_first fields f y d digit room =
    rw (le-leb 48 (48 + d) (omega arith), le-leb (48 + d) 57 (omega arith), lt-ltb y 16384 room)
    (ap (λ (n : ℕ). More (Number f (y + 1) n)) (omega arith))

pub feeds_next : (fields f y v d : ℕ) → d < 10 → (v ≡ 0 → ⊥) → v * 10 + d ≤ LARGEST → y < LONGEST
    → feed (Number f y v) (DIGIT + d) fields ≡ More (Number f (y + 1) (v * 10 + d))
unfolding feed in_number longer
feeds_next fields f y v d digit some fits room =
    let same : 48 + d - 48 ≡ d = omega arith in
    rw (le-leb 48 (48 + d) (omega arith), le-leb (48 + d) 57 (omega arith), same, ne_eqb v 0 some, le-leb (v * 10 + d) 4294967295 fits, lt-ltb y 16384 room)

pub feeds_return : (fields f y v : ℕ) → f + 1 ≡ fields → feed (Number f y v) CR fields ≡ Field f v Return
unfolding feed in_number
feeds_return fields f y v last = rw (eq-eqb (f + 1) fields last)

pub feeds_line : (fields : ℕ) → feed Return LF fields ≡ Complete
unfolding feed
feeds_line fields = refl
