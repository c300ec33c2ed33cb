use mathlib.Core.Path.{sym, ◌∙◌}
use native.Mathlib.Omega.{arith}
use lib.ListN.{length-append}
use Rattle.text_digits.specs.Lines.{digits_of}
use Rattle.text_digits.specs.Private.{comma, separated}
use Rattle.text_digits.proofs.Stores.{stores_after}
use Rattle.text_digits.proofs.decimal.put_separated.Goals as goal

pub put_comma-next-requires : goal.put_comma-next-requires
unfolding separated
put_comma-next-requires c = let a = c.args in
    let parts = length-append (comma a.i) (digits_of a.number) in
    omega (arith, parts, c.requires)

pub put_digits-requires : goal.put_digits-requires
unfolding separated
put_digits-requires c = let parts = length-append (comma c.args.i) (digits_of c.args.number) in
    omega (arith, parts, c.requires, c.put_comma-next.ensures.answer, c.put_comma-next.auto.buffer)

pub returns : goal.returns
unfolding separated
returns c = let a = c.args in
    let parts = length-append (comma a.i) (digits_of a.number) in
    let first = c.put_comma-next.ensures in
    let then = c.put_digits.ensures in record {
      answer = omega (arith, parts, first.answer, then.answer);
      stores = then.stores ∙ rw (first.stores, first.answer) (sym (stores_after a.buffer.now a.at (comma a.i) (digits_of a.number)));
    }
