-- Sums over an index, and a value for each position along the road.
use Rattle.std.specs.Prelude.{ℕ, zero, suc, ◌+◌}

-- f 0 + f 1 + .. over the n indices below n
abbrev pub sum : ℕ → (ℕ → ℕ) → ℕ
sum zero f = zero
sum (suc n) f = sum n f + f n

-- position 0 is the entry, and position i + 1 the cell of index i
abbrev pub at_position {ℓ} : {A : Type ℓ} → A → (ℕ → A) → ℕ → A
at_position entry cell zero = entry
at_position entry cell (suc i) = cell i
