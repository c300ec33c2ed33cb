-- The shares of a cut cell: they grow with C, never pass the whole, and are what the steps by hand give. Assumes nothing.
use Prim.Native.Nat.{ℕ, ◌+◌, ◌-◌, ◌*◌, ◌/◌, ◌%◌, ◌≤◌, ◌<◌}
use mathlib.Core.Path.{◌≡◌, sym, ap, ◌∙◌}
use native.Mathlib.Nat.{mul-le-mul, mul-le-mul_left, mul_comm, mul-zero, mul-add, add-mul, mul-mod_left, add-mul-div_right, add-mul-mod_self_right}
use native.Mathlib.Nat.{div-mul-le_self, le-div_iff_mul-le, div-le_of_le-mul, div-eq_of_lt, div-le_self, zero-div, zero-mod, mod-add-div', mod-lt, mod-eq_of_lt}
use native.Mathlib.Omega.{arith}
use borrow.Author.Tests.{ne_eqb}
use Rattle.recut.specs.declared.Share.{Share}
use Rattle.recut.specs.Recut.{piece_vehicles, divided, by_hand}

pub share_grows : (n J C C' : ℕ) → 0 < J → C ≤ C' → n * C / J ≤ n * C' / J
share_grows n J C C' h grows = (le-div_iff_mul-le h).1 (omega (arith, div-mul-le_self (n * C) J, mul-le-mul_left n grows))

pub share_at_most : (n J C : ℕ) → 0 < J → C ≤ J → n * C / J ≤ n
share_at_most n J C h most = div-le_of_le-mul J (omega (arith, mul-le-mul_left n most, mul_comm n J))

pub share_of_none : (n J : ℕ) → n * 0 / J ≡ 0
share_of_none n J = rw mul-zero (zero-div J)

-- by hand: n·j with the remainder of n·C over J is n·(C + j) but for the whole times that J goes into n·C
by_parts : (n J C j : ℕ) → n * (C + j) ≡ (n * j + n * C % J) + n * C / J * J
by_parts n J C j = omega (arith, mul-add n C j, mod-add-div' (n * C) J)

pub share_by_remainder : (n J C j : ℕ) → 0 < J → by_hand n J j (n * C % J) ≡ record { vehicles = piece_vehicles n J C j; rest = n * (C + j) % J }
unfolding divided
share_by_remainder n J C j some =
    let parts = by_parts n J C j in
    let wholly : n * (C + j) / J ≡ (n * j + n * C % J) / J + n * C / J = ap (λ x. x / J) parts ∙ add-mul-div_right (n * j + n * C % J) (n * C / J) some in
    let vehicles : (n * j + n * C % J) / J ≡ piece_vehicles n J C j = omega (arith, wholly) in
    let rest : (n * j + n * C % J) % J ≡ n * (C + j) % J = sym (ap (λ x. x % J) parts ∙ add-mul-mod_self_right (n * j + n * C % J) (n * C / J) J) in
    rw (ne_eqb J 0 (omega arith)) (λ i. record { vehicles = vehicles i; rest = rest i })

-- nothing is left before the first piece, nor by the last
pub none_left_before : (n J : ℕ) → n * 0 % J ≡ 0
none_left_before n J = rw mul-zero (zero-mod J)

pub last_leaves_none : (n J : ℕ) → n * J % J ≡ 0
last_leaves_none n J = mul-mod_left n J

-- a remainder that is added after the division, once or with one vehicle more
divided_as : (q x J : ℕ) → x < J → divided (x + q * J) J ≡ record { vehicles = q; rest = x }
unfolding divided
divided_as q x J below =
    let vehicles : (x + q * J) / J ≡ q = omega (arith, add-mul-div_right x q {z = J} (omega arith), div-eq_of_lt below) in
    let rest : (x + q * J) % J ≡ x = add-mul-mod_self_right x q J ∙ mod-eq_of_lt below in
    rw (ne_eqb J 0 (omega arith)) (λ i. record { vehicles = vehicles i; rest = rest i })

-- own is what p comes to, divided by J; a remainder below J is added to it
module _ (p J rest : ℕ) {own : Share} (below : rest < J) (is : own ≡ divided p J) where
  own_is : own ≡ record { vehicles = p / J; rest = p % J }
  unfolding divided
  own_is = is ∙ rw (ne_eqb J 0 (omega arith))

  pub own_vehicles : own.vehicles ≤ p
  own_vehicles = rw own_is (div-le_self p J)

  pub own_rest : own.rest < J
  own_rest = rw own_is (mod-lt p (omega arith))

  pub added_within : own.rest + rest < J → record { vehicles = own.vehicles; rest = own.rest + rest } ≡ divided (p + rest) J
  added_within within =
      let within' : p % J + rest < J = rw own_is at within in
      let all : p + rest ≡ (p % J + rest) + p / J * J = omega (arith, mod-add-div' p J) in
      rw own_is (sym (ap (λ a. divided a J) all ∙ divided_as (p / J) (p % J + rest) J within'))

  pub added_over : J ≤ own.rest + rest → record { vehicles = own.vehicles + 1; rest = own.rest + rest - J } ≡ divided (p + rest) J
  added_over over =
      let over' : J ≤ p % J + rest = rw own_is at over in
      let all : p + rest ≡ (p % J + rest - J) + (p / J + 1) * J = omega (arith, mod-add-div' p J, add-mul (p / J) 1 J) in
      rw own_is
      (sym (ap (λ a. divided a J) all ∙ divided_as (p / J + 1) (p % J + rest - J) J (omega (arith, mod-lt p {m = J} (omega arith)))))

-- a product of two numbers of 32 bits with one more fits 64 bits
pub product_with_rest : (n j rest : ℕ) → n ≤ 4_294_967_295 → j ≤ 4_294_967_295 → rest ≤ 4_294_967_295 → n * j + rest ≤ 18_446_744_069_414_584_320
product_with_rest n j rest hn hj hr = omega (arith, mul-le-mul hn hj)
