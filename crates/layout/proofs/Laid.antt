-- Lists that are laid out as an entry and columns: what stands where, what a store keeps, and when a list is one. Assumes nothing.
use Prim.Native.Nat.{ℕ, ◌+◌, ◌≤◌, ◌<◌}
use mathlib.Core.Path.{◌≡◌, refl, ap, ap₂, sym, ◌∙◌}
use mathlib.Core.List.{List, [], ◌∷◌, ◌++◌, append_assoc}
use native.Mathlib.Omega.{arith}
use native.Mathlib.Decide.{ℕ_discrete}
use lib.ListN.{length, get_or, set, drop, replicate, length-append, length-set, length-drop, length-replicate}
use lib.Seq.{get_or-set_same, get_or-set_other, get_or-append-add, drop-cons, drop-length, drop-drop, get_or-drop}
use Rattle.whole.specs.Lists.{build}
use Rattle.whole.proofs.Lists.{build-length, at_build, build_then, are_zeros}
use Rattle.layout.specs.Laid.{columns, laid, with_entry, stored, Space}

-- how many numbers the columns have
abbrev pub size : ℕ → List (ℕ → ℕ) → ℕ
size n [] = 0
size n (column ∷ rest) = n + size n rest

-- the numbers of the cell of index i, one from each column
abbrev pub across : List (ℕ → ℕ) → ℕ → List ℕ
across [] i = []
across (column ∷ rest) i = column i ∷ across rest i

-- each column has its numbers at the indices that are meant; the first begins at a start
abbrev pub Filled : (ℕ → Type 0) → ℕ → List ℕ → ℕ → List (ℕ → ℕ) → Type 0
Filled Meant n list start [] = Unit
Filled Meant n list start (column ∷ rest) =
    ((k : ℕ) → k < n → Meant k → get_or list (start + k) 0 ≡ column k) × Filled Meant n list (start + n) rest

-- where none is meant there is nothing to have
pub filled_none : (n : ℕ) (list : List ℕ) (start : ℕ) (cs : List (ℕ → ℕ)) → Filled (λ k. n ≤ k) n list start cs
filled_none n list start [] = tt
filled_none n list start (column ∷ rest) = (λ k below meant. absurd (omega arith), filled_none n list (start + n) rest)

-- A store before the start leaves the columns, and so do stores of the columns after this one.

pub before_columns : (Meant : ℕ → Type 0) (n : ℕ) (list : List ℕ) (start place value : ℕ) (cs : List (ℕ → ℕ)) → place < start → Filled Meant n list start cs → Filled Meant n (set list place value) start cs
before_columns Meant n list start place value [] h filled = tt
before_columns Meant n list start place value (column ∷ rest) h filled =
    (λ k below meant. get_or-set_other list place (start + k) value 0 (λ at. omega arith) ∙ filled.0 k below meant, before_columns Meant n list (start + n) place value rest (omega arith) filled.1)

after_place : (n start i place : ℕ) (values list : List ℕ) → place < start → get_or (stored n start i values list) place 0 ≡ get_or list place 0
after_place n start i place [] list h = refl
after_place n start i place (value ∷ rest) list h =
    after_place n (start + n) i place rest (set list (start + i) value) (omega arith)
    ∙ get_or-set_other list (start + i) place value 0 (λ at. omega arith)

-- a store of a cell leaves the entry's number, and the length
pub stored_entry : (n i : ℕ) (values list : List ℕ) → get_or (stored n 1 i values list) 0 0 ≡ get_or list 0 0
stored_entry n i values list = after_place n 1 i 0 values list (omega arith)

pub stored_length : (n start i : ℕ) (values list : List ℕ) → length (stored n start i values list) ≡ length list
stored_length n start i [] list = refl
stored_length n start i (value ∷ rest) list = stored_length n (start + n) i rest (set list (start + i) value) ∙ length-set list (start + i) value

-- stored in each column: the cells that were meant are, and the stored one too where it is meant and the values are its own
pub stored_cell : (Before After : ℕ → Type 0) (n : ℕ) (list : List ℕ) (start i : ℕ) (values : List ℕ) (cs : List (ℕ → ℕ)) → i < n → length list ≡ start + size n cs → length values ≡ length cs → ((k : ℕ) → After k → (k ≡ i → ⊥) → Before k) → (After i → values ≡ across cs i) → Filled Before n list start cs → Filled After n (stored n start i values list) start cs
stored_cell Before After n list start i values [] h len same other own filled = tt
stored_cell Before After n list start i [] (column ∷ rest) h len same other own filled = absurd (omega arith)
stored_cell Before After n list start i (value ∷ values) (column ∷ rest) h len same other own filled =
    (λ k below meant. after_place n (start + n) i (start + k) values (set list (start + i) value) (omega arith) ∙ by k below meant (ℕ_discrete k i), stored_cell Before After n (set list (start + i) value) (start + n) i values rest h (length-set list (start + i) value ∙ len ∙ omega arith) (omega arith) other (λ meant. ap tail (own meant)) (before_columns Before n list (start + n) (start + i) value rest (omega arith) filled.1))
  where
    tail : List ℕ → List ℕ
    tail [] = []
    tail (x ∷ xs) = xs

    head : List ℕ → ℕ
    head [] = 0
    head (x ∷ xs) = x

    by : (k : ℕ) → k < n → After k → Dec (k ≡ i) → get_or (set list (start + i) value) (start + k) 0 ≡ column k
    by k below meant (yes at) = rw at (get_or-set_same list (start + i) value 0 (omega arith) ∙ ap head (own (rw at at meant)))
    by k below meant (no elsewhere) =
        get_or-set_other list (start + i) (start + k) value 0 (λ at. elsewhere (omega arith)) ∙ filled.0 k below (other k meant elsewhere)

-- What is laid out has its numbers, and its length.

abbrev All : ℕ → Type 0
All k = Unit

columns_length : (n : ℕ) (cs : List (ℕ → ℕ)) → length (columns n cs) ≡ size n cs
columns_length n [] = refl
columns_length n (column ∷ rest) = length-append (build n column) (columns n rest) ∙ ap₂ (λ a b. a + b) (build-length n column) (columns_length n rest)

pub laid_length : (n entry : ℕ) (cs : List (ℕ → ℕ)) → length (laid n entry cs) ≡ 1 + size n cs
laid_length n entry cs = omega (arith, columns_length n cs)

after_part : (n : ℕ) (part : List ℕ) (start : ℕ) (cs : List (ℕ → ℕ)) → length part ≡ start → Filled All n (part ++ columns n cs) start cs
after_part n part start [] len = tt
after_part n part start (column ∷ rest) len =
    (λ k below meant. rw len at (get_or-append-add part (build n column ++ columns n rest) k 0) ∙ at_build n column (columns n rest) k 0 below, rw append_assoc at (after_part n (part ++ build n column) (start + n) rest (length-append part (build n column) ∙ ap₂ (λ a b. a + b) len (build-length n column))))

pub laid_filled : (n entry : ℕ) (cs : List (ℕ → ℕ)) → Filled All n (laid n entry cs) 1 cs
laid_filled n entry cs = after_part n (entry ∷ []) 1 cs refl

-- a list that has an entry and its columns is laid out from them
columns_are : (n : ℕ) (list : List ℕ) (start : ℕ) (cs : List (ℕ → ℕ)) → length list ≡ start + size n cs → Filled All n list start cs → drop start list ≡ columns n cs
columns_are n list start [] len filled = let all : start ≡ length list = omega arith in rw all (drop-length list)
columns_are n list start (column ∷ rest) len filled =
    build_then 0 (drop start list) n column (columns n rest) (omega (arith, length-drop start list))
    (λ k below. get_or-drop start list k 0 ∙ filled.0 k below tt)
    (drop-drop n start list ∙ columns_are n list (start + n) rest (len ∙ omega arith) filled.1)

pub is_laid : (n entry : ℕ) (list : List ℕ) (cs : List (ℕ → ℕ)) → length list ≡ 1 + size n cs → get_or list 0 0 ≡ entry → Filled All n list 1 cs → list ≡ laid n entry cs
is_laid n entry list cs len first filled =
    drop-cons list 0 0 (omega arith) ∙ ap₂ (λ a b. a ∷ b) first (columns_are n list 1 cs len filled)

-- A list on its way, as a loop over the cells meets it: it has its length, and the cells that are meant have their numbers.

pub record Laying (Meant : ℕ → Type 0) (n : ℕ) (list : List ℕ) (cs : List (ℕ → ℕ)) : Type 0 where
  pub len : length list ≡ 1 + size n cs
  pub filled : Filled Meant n list 1 cs

module _ (n : ℕ) (list : List ℕ) (cs : List (ℕ → ℕ)) where
  fewer : (Before After : ℕ → Type 0) (start : ℕ) (some : List (ℕ → ℕ)) → ((k : ℕ) → k < n → After k → Before k) → Filled Before n list start some → Filled After n list start some
  fewer Before After start [] less filled = tt
  fewer Before After start (column ∷ rest) less filled =
      (λ k below meant. filled.0 k below (less k below meant), fewer Before After (start + n) rest less filled.1)

  -- what is meant of fewer cells, or said of them in other words
  pub laying_part : {Before After : ℕ → Type 0} → ((k : ℕ) → k < n → After k → Before k) → Laying Before n list cs → Laying After n list cs
  laying_part {Before} {After} less so = record { len = so.len; filled = fewer Before After 1 cs less so.filled }

  -- no cell is meant yet
  pub laying_none : {Meant : ℕ → Type 0} → ((k : ℕ) → k < n → Meant k → ⊥) → length list ≡ 1 + size n cs → Laying Meant n list cs
  laying_none {Meant} none len =
      record { len = len; filled = fewer (λ k. n ≤ k) Meant 1 cs (λ k below meant. absurd (none k below meant)) (filled_none n list 1 cs) }

  -- a cell is stored: those that were meant are still, and it is too where the values are its own
  pub laying_cell : {Before After : ℕ → Type 0} {i : ℕ} {values : List ℕ} → Laying Before n list cs → i < n → length values ≡ length cs → ((k : ℕ) → After k → (k ≡ i → ⊥) → Before k) → (After i → values ≡ across cs i) → Laying After n (stored n 1 i values list) cs
  laying_cell {Before} {After} {i} {values} so h same other own =
      record {
        len = stored_length n 1 i values list ∙ so.len;
        filled = stored_cell Before After n list 1 i values cs h so.len same other own so.filled;
      }

  -- every cell is meant, and the entry's number is known, or is stored now
  pub laying_ends : {Meant : ℕ → Type 0} {entry : ℕ} → Laying Meant n list cs → ((k : ℕ) → k < n → Meant k) → get_or list 0 0 ≡ entry → list ≡ laid n entry cs
  laying_ends {Meant} {entry} so every first =
      is_laid n entry list cs so.len first (fewer Meant All 1 cs (λ k below _. every k below) so.filled)

  pub laying_whole : {Meant : ℕ → Type 0} {entry : ℕ} → Laying Meant n list cs → ((k : ℕ) → k < n → Meant k) → with_entry list entry ≡ laid n entry cs
  laying_whole {Meant} {entry} so every =
      is_laid n entry (with_entry list entry) cs (length-set list 0 entry ∙ so.len)
      (get_or-set_same list 0 entry 0 (omega (arith, so.len)))
      (before_columns All n list 1 0 entry cs (omega arith) (fewer Meant All 1 cs (λ k below _. every k below) so.filled))

-- n times 0 is room for n numbers
pub is_space : (n : ℕ) → Space n (replicate n 0)
is_space n = record { empty = are_zeros n; len = sym (length-replicate n 0) }
