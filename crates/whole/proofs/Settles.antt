-- What it is for a promise to settle a function's result: two results that it allows, for the same arguments, are equal.
-- Assumes nothing.
use Prim.Native.Nat.{ℕ}
use mathlib.Core.Path.{◌≡◌, sym, ◌∙◌}
use mathlib.Core.List.{List}
use contract.Lifetimes.{Lfts}
use denote.Triple.Clauses.{AtExit}
use borrow.Fn.Kinds.{ParamKind, ResultKind, Out, Dens, ended_of, res_t}

-- a promise, as a caller learns it, of a function that returns r
abbrev pub Settles : (n : ℕ) (ps : List (ParamKind n)) (r : ResultKind n) → Out n ps r → Type 0
Settles n ps r Promise =
    (κs : Lfts n) (a : Dens κs ps) (y z : (res_t r κs).Denot) (e f : AtExit (ended_of n ps r) κs) → Promise κs a y e → Promise κs a z f → y ≡ z

-- the same of a function that also changes lent lists: their contents at exit are equal too
abbrev pub SettlesLists : (n : ℕ) (ps : List (ParamKind n)) (r : ResultKind n) (L : Type 0) → ((κs : Lfts n) → AtExit (ended_of n ps r) κs → L) → Out n ps r → Type 0
SettlesLists n ps r L lists Promise =
    (κs : Lfts n) (a : Dens κs ps) (y z : (res_t r κs).Denot) (e f : AtExit (ended_of n ps r) κs) → Promise κs a y e → Promise κs a z f → (y ≡ z) × (lists κs e ≡ lists κs f)

-- what equals one thing is one thing
pub settled {ℓ} : {A : Type ℓ} {x y z : A} → y ≡ x → z ≡ x → y ≡ z
settled p q = p ∙ sym q
