use Rattle.std.proofs.Common.{◌+◌, ◌/◌, refl, ap, arith}
use lib.ListN.{set}
use Rattle.text_digits.proofs.Digits.{one_digit, Storing, storing_begins, digit_stored, digit_lacks, storing_ends}
use Rattle.text_digits.proofs.decimal.put_few.Goals as goal
use Rattle.text_digits.proofs.decimal.put_few.Goals.{then-number-ge10000, else-number-ge10000, then-number-ge1000, else-number-ge1000, then-number-ge100, else-number-ge100}

pub returns-then-number-lt10 : goal.returns-then-number-lt10
returns-then-number-lt10 c = record {
  answer = rw (one_digit c.args.number c.if-number-lt10.true);
  stores = rw (one_digit c.args.number c.if-number-lt10.true) (ap (λ v. set c.args.buffer.now c.args.at v) c.digit.ensures);
}

-- what stands in the buffer after each test, and after each of the last two digits
pub returns : goal.returns
returns c =
    let a = c.args in
    let begins : Storing a.buffer.now a.at 0 (a.number / 100000) a.buffer.now a.at = storing_begins a.buffer.now a.at (a.number / 100000) (omega arith) in
    let one : Storing a.buffer.now a.at 1 (a.number / 10000) c.if-number-ge10000.buffer c.if-number-ge10000.next =
    elim c.if-number-ge10000.branch [
      | then-number-ge10000 w ↦ digit_stored begins (a.number / 10000) (omega arith) (omega arith) (omega (arith, w.digit-then-number-ge10000.ensures)) w.buffer-is w.next-is
      | else-number-ge10000 w ↦ digit_lacks begins (a.number / 10000) (omega arith) w.buffer-is w.next-is
    ]
    in
    let two : Storing a.buffer.now a.at 2 (a.number / 1000) c.if-number-ge1000.buffer c.if-number-ge1000.next =
    elim c.if-number-ge1000.branch [
      | then-number-ge1000 w ↦ digit_stored one (a.number / 1000) (omega arith) (omega arith) w.digit-then-number-ge1000.ensures w.buffer-is w.next-is
      | else-number-ge1000 w ↦ digit_lacks one (a.number / 1000) (omega arith) w.buffer-is w.next-is
    ]
    in
    let three : Storing a.buffer.now a.at 3 (a.number / 100) c.if-number-ge100.buffer c.if-number-ge100.next =
    elim c.if-number-ge100.branch [
      | then-number-ge100 w ↦ digit_stored two (a.number / 100) (omega arith) (omega arith) w.digit-then-number-ge100.ensures w.buffer-is w.next-is
      | else-number-ge100 w ↦ digit_lacks two (a.number / 100) (omega arith) w.buffer-is w.next-is
    ]
    in
    let four : Storing a.buffer.now a.at 4 (a.number / 10) (set c.if-number-ge100.buffer c.if-number-ge100.next c.digit-2.result) (c.if-number-ge100.next + 1) =
    digit_stored three (a.number / 10) (omega arith) (omega arith) c.digit-2.ensures refl refl
    in
    let five : Storing a.buffer.now a.at 5 a.number (set (set c.if-number-ge100.buffer c.if-number-ge100.next c.digit-2.result) (c.if-number-ge100.next + 1) c.digit-3.result) (c.if-number-ge100.next + 2) =
    digit_stored four a.number refl (omega arith) c.digit-3.ensures refl (omega arith)
    in
    let both = storing_ends five (omega arith) in record {
      answer = both.0;
      stores = both.1;
    }
