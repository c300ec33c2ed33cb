-- Cited by private contracts and proofs alone: no public promise rests on this file.
-- The number of an index of a record.
use Rattle.std.specs.Prelude.{ℕ, List, [], ◌∷◌, ◌++◌, eqb}
use Rattle.whole.specs.Search.{pick}
use Rattle.text_digits.specs.Lines.{COMMA, digits_of}

-- the number of index i of a record: each but the first follows a comma
abbrev pub comma : ℕ → List ℕ
comma i = pick (eqb i 0) [] (COMMA ∷ [])

unfoldable pub separated : ℕ → ℕ → List ℕ
separated i n = comma i ++ digits_of n
