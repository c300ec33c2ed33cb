use Rattle.std.proofs.Common.{◌≤◌, ap, arith}
use lib.ListN.{set}
use Rattle.text_digits.proofs.Digits.{one_digit, some_digit, one_longer, last_digit_stored}
use Rattle.text_digits.proofs.decimal.+put_digits.Goals as goal

pub bounds-buffer-at : goal.bounds-buffer-at
bounds-buffer-at t c = omega (arith, some_digit c.args.number)

pub put_digits-next-requires : goal.put_digits-next-requires
put_digits-next-requires t c = (omega arith, omega (arith, one_longer c.args.number c.if-number-lt10.false))

pub bounds-buffer-next : goal.bounds-buffer-next
bounds-buffer-next t c = omega (arith, one_longer c.args.number c.if-number-lt10.false)

pub overflow_add-result-else-number-lt10 : goal.overflow_add-result-else-number-lt10
overflow_add-result-else-number-lt10 t c = omega (arith, one_longer c.args.number c.if-number-lt10.false)

pub returns-then-number-lt10 : goal.returns-then-number-lt10
returns-then-number-lt10 t c = record {
  answer = rw (one_digit c.args.number c.if-number-lt10.true);
  stores = rw (one_digit c.args.number c.if-number-lt10.true) (ap (λ v. set c.args.buffer.now c.args.at v) c.digit.ensures);
}

pub returns-else-number-lt10 : goal.returns-else-number-lt10
returns-else-number-lt10 t c =
    let a = c.args in
    let big : 10 ≤ a.number = c.if-number-lt10.false in
    let done = c.put_digits-next.ensures in record {
      answer = omega (arith, done.answer, one_longer a.number big);
      stores = rw (done.stores, done.answer, c.digit-else-number-lt10.ensures) (last_digit_stored a.buffer.now a.at a.number big);
    }
