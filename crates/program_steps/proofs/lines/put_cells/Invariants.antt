use Prim.Native.Nat.{ℕ, ◌+◌, ◌-◌, ◌*◌, ◌≤◌}
use mathlib.Core.Path.{◌≡◌}
use lib.ListN.{length}
use Rattle.text_digits.specs.Lines.{digits_of}
use Rattle.program_steps.specs.Lines.{line_room}
use Rattle.program_steps.proofs.Writing.{Writing}
use Rattle.program_steps.proofs.lines.put_cells.Given as goal

abbrev pub invariant-loop-i : goal.invariant-loop-i
invariant-loop-i l = ((k : ℕ) → l.period ≡ digits_of k → Writing k l.n l.state l.sheet l.initial.out l.at l.i l.out l.to) × (l.to + line_room * (l.n - l.i) ≤ length l.out) × (length l.out ≡ length l.initial.out)
