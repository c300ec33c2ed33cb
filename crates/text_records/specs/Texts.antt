-- Rules, "The text and the program": the text of records of whole numbers. A text is a list of bytes.
use Rattle.std.specs.Prelude.{ℕ, ◌≤◌, ◌≡◌, List, [], ◌∷◌, ◌++◌, length}
use Rattle.text_scans.specs.Scans.{LARGEST, LONGEST}
use Rattle.text_digits.specs.Lines.{record_text, line_text}

-- records, each with its end
unfoldable pub text_of : List (List ℕ) → List ℕ
text_of [] = []
text_of (row ∷ rest) = line_text row ++ text_of rest

-- the numbers of records, one after the other
unfoldable pub together : List (List ℕ) → List ℕ
together [] = []
together (row ∷ rest) = row ++ together rest

-- each number is one that a field holds
pub data Small : List ℕ → Type 0 where
  none : Small []
  and : {n : ℕ} {rest : List ℕ} → n ≤ LARGEST → Small rest → Small (n ∷ rest)

-- a record within the limits: of so many fields, at least one, and not too long
pub record Fits (fields : ℕ) (row : List ℕ) : Type 0 where
  pub some : 1 ≤ fields
  pub count : length row ≡ fields
  pub small : Small row
  pub short : length (record_text row) ≤ LONGEST

pub data AllFit (fields : ℕ) : List (List ℕ) → Type 0 where
  none_left : AllFit fields []
  and_then : {row : List ℕ} {rest : List (List ℕ)} → Fits fields row → AllFit fields rest → AllFit fields (row ∷ rest)

-- the text of records, the last end optional
pub data TextOf : List (List ℕ) → List ℕ → Type 0 where
  closed : (rows : List (List ℕ)) → TextOf rows (text_of rows)
  left_open : (rows : List (List ℕ)) (row : List ℕ) → TextOf (rows ++ row ∷ []) (text_of rows ++ record_text row)
