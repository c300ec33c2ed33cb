-- What a cell would send, and what leaves by its off-ramp, by the off-ramp's kind. Assumes nothing.
use Prim.Native.Nat.{ℕ, ◌+◌, ◌-◌, ◌*◌, ◌/◌, ◌≤◌, ◌<◌, min}
use mathlib.Core.Path.{◌≡◌}
use borrow.Author.Tests.{eq-eqb, ne_eqb}
use Rattle.whole.specs.Share.{ONE, share}
use Rattle.layout.specs.declared.Row.{Row}
use Rattle.period.specs.Cell.{D, M, off_flow}
use Rattle.period.proofs.Fair.{leaves_what_it_has}

module _ (r : Row) (n o : ℕ) where
  pub none_sends : r.off ≡ 0 → D r n ≡ M r n o
  unfolding M
  none_sends none = rw (eq-eqb _ _ none)

  pub given_sends : (r.off ≡ 0 → ⊥) → r.b ≡ 0 → D r n - min o (D r n) ≡ M r n o
  unfolding M
  given_sends some given = rw (ne_eqb _ _ some, eq-eqb _ _ given)

  pub split_sends : (r.off ≡ 0 → ⊥) → (r.b ≡ 0 → ⊥) → share (D r n) (ONE - r.b) ≡ M r n o
  unfolding M
  split_sends some split = rw (ne_eqb _ _ some, ne_eqb _ _ split)

  module _ (f : ℕ) where
    pub none_leaves : r.off ≡ 0 → 0 ≡ off_flow r n o f
    unfolding off_flow
    none_leaves none = rw (eq-eqb _ _ none)

    pub given_leaves : (r.off ≡ 0 → ⊥) → r.b ≡ 0 → min o (D r n) ≡ off_flow r n o f
    unfolding off_flow
    given_leaves some given = rw (ne_eqb _ _ some, eq-eqb _ _ given)

    pub split_leaves_lem : (r.off ≡ 0 → ⊥) → (r.b ≡ 0 → ⊥) → f * r.b / (ONE - r.b) ≡ off_flow r n o f
    unfolding off_flow
    split_leaves_lem some split = rw (ne_eqb _ _ some, ne_eqb _ _ split)

    -- what a split takes is in the cell with f
    pub split_fits : r.v ≤ ONE → r.b < ONE → (r.off ≡ 0 → ⊥) → (r.b ≡ 0 → ⊥) → f ≤ M r n o → f + f * r.b / (ONE - r.b) ≤ n
    split_fits v b some split h = rw (split_leaves_lem some split) (leaves_what_it_has r n o f v b h)
