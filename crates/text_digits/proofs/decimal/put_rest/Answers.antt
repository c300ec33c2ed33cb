use Rattle.std.proofs.Common.{arith}
use Rattle.text_digits.proofs.Lines.{further_put, rest_ends}
use Rattle.text_digits.proofs.decimal.put_rest.Goals as goal

pub loop-number-preserved : goal.loop-number-preserved
loop-number-preserved c = let put = c.put_further-next.ensures in
    further_put c.loop-number.invariant (omega arith) put.answer put.within put.stores

pub returns : goal.returns
returns c = let both = rest_ends c.loop-number.invariant (omega arith) c.put_end.ensures.answer c.put_end.ensures.stores in record {
  answer = both.0;
  within = omega arith;
  stores = both.1;
}
