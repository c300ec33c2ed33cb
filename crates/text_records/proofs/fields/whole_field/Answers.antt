use Rattle.std.proofs.Common.{rules}
use native.Mathlib.Omega.{arith}
use lib.ListN.{get_or}
use Rattle.text_records.proofs.Comes.{is_digit_lem, only_digit, first_digit_then}
use Rattle.text_records.proofs.fields.whole_field.Goals as goal

pub returns-then-chunk-from-eq44 : goal.returns-then-chunk-from-eq44
returns-then-chunk-from-eq44 c = let a = c.args in
    let digit = is_digit_lem (get_or a.chunk.now a.from 0) c.is_digit.ensures c.if-not-is_digit.false in
    rw c.from-first.ensures (only_digit _ _ _ (search rules) digit c.if-stop-from-lt2.false c.if-chunk-from-eq44.true)

pub returns : goal.returns
returns c = let a = c.args in
    let digit = is_digit_lem (get_or a.chunk.now a.from 0) c.is_digit.ensures c.if-not-is_digit.false in
    first_digit_then _ _ _ (search rules) digit c.after_first.result (omega arith) (rw c.from-first.ensures at c.after_first.ensures)
