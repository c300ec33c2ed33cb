-- The laws of a list that is built from an index function. Assumes nothing.
use Prim.Native.Nat.{ℕ, zero, suc, ◌+◌, ◌≤◌, ◌<◌}
use mathlib.Core.Path.{◌≡◌, refl, ap, ap₂, sym, ◌∙◌}
use mathlib.Core.List.{List, ◌∷◌, ◌++◌}
use native.Mathlib.Nat.{le_of_suc-le-suc, not-suc-le-zero}
use lib.ListN.{length, get_or, take, drop, replicate, take-append-drop, get_or-append}
use lib.Seq.{ext_get_or, get_or-append-add, get_or-take, length-take-le}
use Rattle.whole.specs.Lists.{build, zeros}

pub build-length {ℓ} : {A : Type ℓ} (n : ℕ) (f : ℕ → A) → length (build n f) ≡ n
build-length zero f = refl
build-length (suc n) f = ap suc (build-length n (λ i. f (suc i)))

pub build_at {ℓ} : {A : Type ℓ} (n : ℕ) (f : ℕ → A) (i : ℕ) (d : A) → i < n → get_or (build n f) i d ≡ f i
build_at zero f i d h = absurd (not-suc-le-zero h)
build_at (suc n) f zero d h = refl
build_at (suc n) f (suc i) d h = build_at n (λ k. f (suc k)) i d (le_of_suc-le-suc h)

-- two lists of one length that agree at each index are equal
pub same_list {ℓ} : {A : Type ℓ} (d : A) (l m : List A) → length l ≡ length m → ((i : ℕ) → i < length l → get_or l i d ≡ get_or m i d) → l ≡ m
same_list d l m = ext_get_or d l m

-- a list with the length and the elements that a build has is that build
pub is_build {ℓ} : {A : Type ℓ} (d : A) (l : List A) (n : ℕ) (f : ℕ → A) → length l ≡ n → ((i : ℕ) → i < n → get_or l i d ≡ f i) → l ≡ build n f
is_build d l n f len each =
    same_list d l (build n f) (len ∙ sym (build-length n f)) λ i h. each i (rw len at h) ∙ sym (build_at n f i d (rw len at h))

-- A list that is a build and then the rest

pub at_build {ℓ} : {A : Type ℓ} (n : ℕ) (f : ℕ → A) (rest : List A) (i : ℕ) (d : A) → i < n → get_or (build n f ++ rest) i d ≡ f i
at_build n f rest i d h =
    get_or-append (build n f) rest d i (rw (build-length n f) h) ∙ build_at n f i d h

pub past_build {ℓ} : {A : Type ℓ} (n : ℕ) (f : ℕ → A) (rest : List A) (i : ℕ) (d : A) → get_or (build n f ++ rest) (n + i) d ≡ get_or rest i d
past_build n f rest i d = rw build-length at (get_or-append-add (build n f) rest i d)

pub build_then {ℓ} : {A : Type ℓ} (d : A) (l : List A) (n : ℕ) (f : ℕ → A) (rest : List A) → n ≤ length l → ((i : ℕ) → i < n → get_or l i d ≡ f i) → drop n l ≡ rest → l ≡ build n f ++ rest
build_then d l n f rest h each after =
    sym (take-append-drop n l)
    ∙ ap₂ (λ a b. a ++ b)
    (is_build d (take n l) n f (length-take-le n l h) λ i below. get_or-take n l i d below ∙ each i below)
    after

pub are_zeros : (n : ℕ) → replicate n 0 ≡ zeros n
unfolding zeros
are_zeros zero = refl
are_zeros (suc n) = ap (λ rest. 0 ∷ rest) (are_zeros n)

pub zeros-length : (n : ℕ) → length (zeros n) ≡ n
unfolding zeros
zeros-length n = build-length n (λ _. 0)
