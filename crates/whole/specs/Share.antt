-- Rules, "Units and the cell row": shares are whole numbers over ONE, and divisions round down.
use Rattle.std.specs.Prelude.{ℕ, ◌*◌, ◌/◌}

abbrev pub ONE : ℕ
ONE = 65536

abbrev pub share : ℕ → ℕ → ℕ
share a b = a * b / ONE
