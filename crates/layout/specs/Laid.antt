-- How a state, a demand row and a flow sheet of n cells are laid out: the entry's number, then column after column of n numbers each.
-- Cells are indexed from 0 here; their places, in refusals, count from 1.
use Rattle.std.specs.Prelude.{ℕ, ◌+◌, ◌≡◌, List, [], ◌∷◌, ◌++◌, length, set}
use Rattle.whole.specs.Lists.{build, zeros}

-- column after column
abbrev pub columns : ℕ → List (ℕ → ℕ) → List ℕ
columns n [] = []
columns n (column ∷ rest) = build n column ++ columns n rest

-- the entry's number, then the columns
abbrev pub laid : ℕ → ℕ → List (ℕ → ℕ) → List ℕ
laid n entry cs = entry ∷ columns n cs

-- the list with the entry's number stored
abbrev pub with_entry : List ℕ → ℕ → List ℕ
with_entry list value = set list 0 value

-- the list with the numbers of the cell of index i stored, one in each column; the first column begins at a start
abbrev pub stored : ℕ → ℕ → ℕ → List ℕ → List ℕ → List ℕ
stored n start i [] list = list
stored n start i (value ∷ rest) list = stored n (start + n) i rest (set list (start + i) value)

-- room for a list of so many numbers, with nothing in it yet
pub record Space (n : ℕ) (list : List ℕ) : Type 0 where
  pub empty : list ≡ zeros n
  pub len : n ≡ length list
