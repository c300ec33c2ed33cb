-- Sheets and states of n cells that agree in every number are equal. Assumes nothing.
use Prim.Native.Nat.{ℕ, suc, ◌≤◌, ◌<◌}
use mathlib.Core.Path.{◌≡◌, ap₂, ◌∙◌}
use mathlib.Core.List.{List, [], ◌∷◌, ◌++◌}
use native.Mathlib.Omega.{arith}
use Rattle.whole.specs.Lists.{build}
use Rattle.whole.proofs.Lists.{build-length, build_at, is_build}
use Rattle.layout.specs.declared.Cell.{Cell}
use Rattle.layout.specs.Layout.{state_of}
use Rattle.layout.specs.Sheet.{sheet_from}

-- functions that agree below n build one list
pub same_build : (n : ℕ) (f g : ℕ → ℕ) → ((i : ℕ) → i < n → f i ≡ g i) → build n f ≡ build n g
same_build n f g agree = is_build 0 (build n f) n g (build-length n f) λ i h. build_at n f i 0 h ∙ agree i h

-- a column before columns that are equal
column_and : (n : ℕ) {f g : ℕ → ℕ} {rest other : List ℕ} → ((i : ℕ) → i < n → f i ≡ g i) → rest ≡ other → build n f ++ rest ≡ build n g ++ other
column_and n {f} {g} agree same = ap₂ (λ a b. a ++ b) (same_build n f g agree) same

pub same_state : (n : ℕ) {entry entry' : ℕ} {cell cell' : ℕ → Cell} → entry ≡ entry'
    → ((i : ℕ) → i < n → cell i ≡ cell' i) → state_of n entry cell ≡ state_of n entry' cell'
unfolding state_of
same_state n entry cell =
    ap₂ (λ a b. a ∷ b) entry
    (column_and n (λ i h j. (cell i h j).count) (column_and n (λ i h j. (cell i h j).queue) (column_and n (λ i h j. (cell i h j).mode) (λ j. []))))

pub same_sheet : (n : ℕ) {flow flow' off off' on on' mode mode' : ℕ → ℕ} → ((p : ℕ) → p ≤ n → flow p ≡ flow' p)
    → ((i : ℕ) → i < n → off i ≡ off' i) → ((i : ℕ) → i < n → on i ≡ on' i) → ((i : ℕ) → i < n → mode i ≡ mode' i)
    → sheet_from n flow off on mode ≡ sheet_from n flow' off' on' mode'
unfolding sheet_from
same_sheet n flow off on mode =
    ap₂ (λ a b. a ∷ b) (flow 0 (omega arith))
    (column_and n (λ i h. flow (suc i) (omega arith)) (column_and n off (column_and n on (column_and n mode (λ j. [])))))
