-- Tests as Bool, and the least index that fails one.
use Rattle.std.specs.Prelude.{ℕ, zero, suc, Bool, true, false, ◌&&◌, leb}

-- the first value where the test holds, else the second
abbrev pub pick {ℓ} : {A : Type ℓ} → Bool → A → A → A
pick true a b = a
pick false a b = b

-- x is at least low and at most high
abbrev pub within : ℕ → ℕ → ℕ → Bool
within low high x = leb low x && leb x high

-- each index below n passes the test
abbrev pub every : ℕ → (ℕ → Bool) → Bool
every zero test = true
every (suc n) test = every n test && test n

-- the least index below n that fails the test, or n where none fails
abbrev pub first_failing : ℕ → (ℕ → Bool) → ℕ
first_failing zero test = zero
first_failing (suc n) test = pick (test zero) (suc (first_failing n (λ i. test (suc i)))) zero
