-- That the asymmetric way is fair, and what demand 3 needs of the off-ramp: no other fact of either is used. Assumes nothing.
use Prim.Native.Nat.{ℕ, ◌+◌, ◌-◌, ◌*◌, ◌/◌, ◌≤◌, ◌<◌, min}
use mathlib.Core.Path.{◌≡◌, sym, ap, ◌∙◌}
use mathlib.Core.Bool.{Bool, true, false}
use native.Mathlib.Nat.{mul-add, add-mul, div-mul-le_self, le_of_mul-le-mul_right}
use native.Mathlib.Omega.{arith}
use lib.Dec.{eqb}
use Rattle.whole.specs.Share.{ONE, share}
use Rattle.whole.specs.Search.{pick}
use Rattle.whole.proofs.Shares.{share_within, shares_fit}
use Rattle.layout.specs.declared.Row.{Row}
use Rattle.period.specs.Cell.{D, M, off_flow}
use Rattle.period.specs.Sharing.{asymmetric}
use Rattle.period.specs.Fair.{Fair}

pub asymmetric_is_fair : Fair asymmetric
asymmetric_is_fair =
    record {
      mainline_of_offer = λ r n a e. omega arith;
      ramp_of_offer = λ r n a e. omega arith;
      both_fit = λ r n a e h. omega (arith, shares_fit r.w r.x (r.jam - n) h);
    }

-- with a split: where f is at most D·(ONE − b) / ONE, f + f·b / (ONE − b) is at most D
split_of_D : (d b f : ℕ) → b < ONE → f ≤ share d (ONE - b) → f + f * b / (ONE - b) ≤ d
split_of_D d b f below h =
    let rest = ONE - b in
    let made : rest + b ≡ ONE = omega arith in
    let whole : f * rest + f * b ≡ f * ONE = sym (mul-add f rest b) ∙ ap (λ x. f * x) made in
    let all : (f + f * b / rest) * rest ≤ d * rest = omega (arith, add-mul f (f * b / rest) rest, div-mul-le_self (f * b) rest, whole) in
    le_of_mul-le-mul_right all (omega arith)

-- f + s is at most D
pub leaves_of_D : (r : Row) (n o f : ℕ) → r.b < ONE → f ≤ M r n o → f + off_flow r n o f ≤ D r n
unfolding M off_flow
leaves_of_D r n o f below = by (eqb r.off 0) (eqb r.b 0)
  where
    by : (none given : Bool) → f ≤ pick none (D r n) (pick given (D r n - min o (D r n)) (share (D r n) (ONE - r.b)))
        → f + pick none 0 (pick given (min o (D r n)) (f * r.b / (ONE - r.b))) ≤ D r n
    by true given h = omega arith
    by false true h = omega arith
    by false false h = split_of_D (D r n) r.b f below h

-- what a cell sends on and lets off is in it
pub leaves_what_it_has : (r : Row) (n o f : ℕ) → r.v ≤ ONE → r.b < ONE → f ≤ M r n o → f + off_flow r n o f ≤ n
leaves_what_it_has r n o f v below h = omega (arith, leaves_of_D r n o f below h, share_within r.v n v)
