use Rattle.std.proofs.Common.{◌+◌, ◌*◌, ◌≤◌}
use Rattle.show.proofs.vehicles.Given as goal

-- two numbers below 2 ^ 32 for each cell that was passed, and the entry queue
abbrev pub invariant-loop-i : goal.invariant-loop-i
invariant-loop-i g l = l.sum ≤ l.i * 8_589_934_592 + 4_294_967_296
