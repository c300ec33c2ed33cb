use Prim.Native.Nat.{◌*◌}
use Rattle.accept_tables.proofs.Ramps.{RampsPassed}
use Rattle.accept_tables.proofs.checks.ramps_once.Given as goal

abbrev pub invariant-loop-i : goal.invariant-loop-i
invariant-loop-i l = RampsPassed l.table (2 * l.i) l.marks
