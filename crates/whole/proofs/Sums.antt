-- The laws of sums over an index. Assumes nothing.
use Prim.Native.Nat.{ℕ, zero, suc, ◌+◌, ◌-◌, ◌≤◌, ◌<◌}
use mathlib.Core.Path.{◌≡◌, refl, ap, sym, ◌∙◌}
use native.Mathlib.Nat.{not-suc-le-zero}
use native.Mathlib.Numerals.{add-one}
use native.Mathlib.Decide.{ℕ_discrete}
use native.Mathlib.Omega.{arith}
use Rattle.whole.specs.Sums.{sum, at_position}

pub sum_of_sums : (n : ℕ) (f g : ℕ → ℕ) → sum n (λ i. f i + g i) ≡ sum n f + sum n g
sum_of_sums zero f g = refl
sum_of_sums (suc n) f g = omega (arith, sum_of_sums n f g)

pub sum_of_equal_terms : (n : ℕ) (f g : ℕ → ℕ) → ((i : ℕ) → i < n → f i ≡ g i) → sum n f ≡ sum n g
sum_of_equal_terms zero f g same = refl
sum_of_equal_terms (suc n) f g same =
    omega (arith, sum_of_equal_terms n f g (λ i h. same i (omega arith)), same n (omega arith))

-- where one term alone is changed, the sums differ by that term
pub sum_of_one_term_changed : (n i : ℕ) (f g : ℕ → ℕ) → i < n → ((k : ℕ) → k < n → (k ≡ i → ⊥) → f k ≡ g k) → sum n f + g i ≡ sum n g + f i
sum_of_one_term_changed zero i f g h same = absurd (not-suc-le-zero h)
sum_of_one_term_changed (suc n) i f g h same =
    last (ℕ_discrete i n) λ below. sum_of_one_term_changed n i f g below (λ k under other. same k (omega arith) other)
  where
    last : Dec (i ≡ n) → (i < n → sum n f + g i ≡ sum n g + f i) → sum n f + f n + g i ≡ sum n g + g n + f i
    last (yes e) shorter =
        rw e
        (omega (arith, sum_of_equal_terms n f g λ k under. same k (omega arith) (λ at. omega (arith, at ∙ e))))
    last (no ne) shorter = omega (arith, shorter (omega (arith, ne)), same n (omega arith) (λ at. ne (sym at)))

-- the balance of a row of cells: where each cell gains the flow from upstream and what joins it, and loses its flow and what
-- leaves it, the row gains the entry's flow and all that joins, and loses all that leaves and the last cell's flow
pub balance : (n entry : ℕ) (before after joins leaves flow : ℕ → ℕ)
    → ((i : ℕ) → i < n → after i + flow i + leaves i ≡ before i + at_position entry flow i + joins i)
    → sum n after + sum n leaves + at_position entry flow n ≡ sum n before + sum n joins + entry
balance zero entry before after joins leaves flow each = omega arith
balance (suc n) entry before after joins leaves flow each =
    omega (arith, balance n entry before after joins leaves flow (λ i h. each i (omega arith)), each n (omega arith))

-- the value at a position that is a cell
pub at_cell {ℓ} : {A : Type ℓ} (entry : A) (cell : ℕ → A) (position : ℕ) → (position ≡ 0 → ⊥) → at_position entry cell position ≡ cell (position - 1)
at_cell entry cell zero other = absurd (other refl)
at_cell entry cell (suc i) other = ap cell (omega arith)

-- a sum over more indices is no less
pub sum_grows : (n m : ℕ) (f : ℕ → ℕ) → n ≤ m → sum n f ≤ sum m f
sum_grows n zero f h = rw same (omega arith)
  where
    same : n ≡ 0
    same = omega arith
sum_grows n (suc m) f h = by (ℕ_discrete n (suc m)) λ below. sum_grows n m f below
  where
    by : Dec (n ≡ suc m) → (n ≤ m → sum n f ≤ sum m f) → sum n f ≤ sum m f + f m
    by (yes e) shorter = rw e (omega arith)
    by (no other) shorter = omega (arith, shorter (omega (arith, other)))

-- one more term, as a loop adds it
pub sum_more : (i : ℕ) (f : ℕ → ℕ) {s v : ℕ} → s ≡ sum i f → v ≡ f i → s + v ≡ sum (i + 1) f
sum_more i f e h = rw add-one (omega arith)
