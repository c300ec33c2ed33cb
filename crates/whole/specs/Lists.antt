-- A list from its length and an index function. Indices count from 0.
use Rattle.std.specs.Prelude.{ℕ, zero, suc, List, [], ◌∷◌}

-- the n elements f 0, f 1, ..
abbrev pub build {ℓ} : {A : Type ℓ} → ℕ → (ℕ → A) → List A
build zero f = []
build (suc n) f = f zero ∷ build n (λ i. f (suc i))

-- n zeros
unfoldable pub zeros : ℕ → List ℕ
zeros n = build n (λ _. 0)
