-- What demand 3 needs of a way of sharing room: the mainline gets no more than a, the on-ramp no more than e, and the two together no more than
-- J − n of the receiving cell.
use Rattle.std.specs.Prelude.{ℕ, ◌+◌, ◌-◌, ◌≤◌}
use Rattle.whole.specs.Share.{ONE}
use Rattle.layout.specs.declared.Row.{Row}
use Rattle.period.specs.Sharing.{Sharing}

pub record Fair (way : Sharing) : Type 0 where
  pub mainline_of_offer : (r : Row) (n a e : ℕ) → (way r n a e).main ≤ a
  pub ramp_of_offer : (r : Row) (n a e : ℕ) → (way r n a e).ramp ≤ e
  pub both_fit : (r : Row) (n a e : ℕ) → r.w + r.x ≤ ONE → (way r n a e).main + (way r n a e).ramp ≤ r.jam - n
