use Prim.Native.Nat.{ℕ, suc, ◌+◌}
use native.Mathlib.Omega.{arith}
use Rattle.whole.proofs.Sums.{sum_grows}
use Rattle.layout.specs.Corridor.{corridor_of, count_of}
use Rattle.join.proofs.group_vehicles.Goals as goal

pub overflow_add-sum : goal.overflow_add-sum
overflow_add-sum c =
    let a = c.args in
    let old = corridor_of a.old.now a.state.now in
    let more = sum_grows (suc c.loop-k.k) a.size (λ (k : ℕ). count_of old (a.first + k)) (omega arith) in
    omega (arith, c.requires.held, more, c.count_at-sum.ensures)
