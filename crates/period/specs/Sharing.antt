-- Rules, "One period", steps 3, 5 and 7, at one node: how the receiving cell, with its row and its count n, shares its room between
-- what the mainline offers, a, and what its on-ramp offers, e: what passes on the mainline and from the on-ramp, and whether the room leaves
-- the mainline free. Another way of sharing is another such function.
use Rattle.std.specs.Prelude.{ℕ, ◌-◌, min, ltb}
use Rattle.whole.specs.Share.{share}
use Rattle.layout.specs.declared.Row.{Row}
use Rattle.period.specs.declared.Passed.{Passed}
use Rattle.period.specs.Cell.{R}

abbrev pub Sharing : Type 0
Sharing = Row → ℕ → ℕ → ℕ → Passed

-- 3. the mainline gets the least of a and R; 5. the on-ramp the least of e and x·(J − n) / ONE; 7. the node is clear where a < R. So a cell
-- upstream, whose a is its least of M and F, is free exactly when M < min(F, R)
abbrev pub asymmetric : Sharing
asymmetric r n a e = record { main = min a (R r n); ramp = min e (share r.x (r.jam - n)); clear = ltb a (R r n) }
