use Prim.Native.Nat.{◌*◌}
use native.Mathlib.Omega.{arith}
use Rattle.recut.proofs.Shares.{added_within, added_over, own_vehicles, product_with_rest}
use Rattle.recut.proofs.share_by_hand.Goals as goal

pub returns-then-over-whole : goal.returns-then-over-whole
returns-then-over-whole c =
    let a = c.args in
    added_within (a.n * a.jam) a.whole a.rest c.if-whole-rest.false c.divide-own.ensures c.if-over-whole.true

pub overflow_add-result : goal.overflow_add-result
overflow_add-result c =
    let a = c.args in
    let product = product_with_rest a.n a.jam a.rest (omega arith) (omega arith) (omega arith) in
    omega (arith, product, own_vehicles (a.n * a.jam) a.whole a.rest c.if-whole-rest.false c.divide-own.ensures)

pub returns : goal.returns
returns c =
    let a = c.args in
    added_over (a.n * a.jam) a.whole a.rest c.if-whole-rest.false c.divide-own.ensures c.if-over-whole.false
