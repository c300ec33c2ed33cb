-- A list from an index on, and a run of stores part by part. Assumes nothing.
use Prim.Native.Nat.{ℕ, suc, ◌+◌, ◌<◌}
use mathlib.Core.Path.{◌≡◌, ap, ◌∙◌}
use mathlib.Core.List.{List, [], ◌∷◌, ◌++◌}
use native.Mathlib.Numerals.{add-one}
use native.Mathlib.Omega.{arith}
use lib.ListN.{length, get_or, drop, set}
use lib.Seq.{sets, drop-cons}

-- from an index on: the element there, and those after it
pub rest_of : (list : List ℕ) (i : ℕ) → i < length list → drop i list ≡ get_or list i 0 ∷ drop (i + 1) list
rest_of list i h = rw add-one (drop-cons list i 0 h)

pub stores_after : (l : List ℕ) (i : ℕ) (a b : List ℕ) → sets l i (a ++ b) ≡ sets (sets l i a) (i + length a) b
stores_after l i [] b = ap (λ (k : ℕ). sets l k b) (omega arith)
stores_after l i (x ∷ a) b = stores_after (set l i x) (suc i) a b ∙ ap (λ (k : ℕ). sets (sets l i (x ∷ a)) k b) (omega arith)
