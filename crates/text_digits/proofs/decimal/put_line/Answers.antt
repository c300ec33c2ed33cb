use Rattle.std.proofs.Common.{rules}
use Rattle.text_digits.proofs.Lines.{line_begins, next_fits, next_put, end_fits, end_put}
use Rattle.text_digits.proofs.decimal.put_line.Goals as goal

pub loop-i-init : goal.loop-i-init
loop-i-init c = line_begins c.args.numbers.now c.args.buffer.now c.args.at c.requires

pub put_separated-next-requires : goal.put_separated-next-requires
put_separated-next-requires c = next_fits c.loop-i.invariant (search rules)

pub loop-i-preserved : goal.loop-i-preserved
loop-i-preserved c = next_put c.loop-i.invariant (search rules) c.put_separated-next.ensures.answer c.put_separated-next.ensures.stores c.put_separated-next.auto.buffer

pub put_end-requires : goal.put_end-requires
put_end-requires c = end_fits c.loop-i.invariant (search rules)

pub returns : goal.returns
returns c = let both = end_put c.loop-i.invariant (search rules) c.put_end.ensures.answer c.put_end.ensures.stores in record {
  answer = both.0;
  stores = both.1;
}
