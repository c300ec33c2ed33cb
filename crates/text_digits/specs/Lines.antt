-- Rules, "The text and the program": the decimal digits of a number, and the line of a record. A text is a list of bytes.
use Rattle.std.specs.Prelude.{ℕ, zero, suc, ◌+◌, ◌/◌, ◌%◌, List, [], ◌∷◌, ◌++◌, ltb}
use Rattle.whole.specs.Search.{pick}

abbrev pub LF : ℕ
LF = 10

abbrev pub CR : ℕ
CR = 13

abbrev pub COMMA : ℕ
COMMA = 44

-- the byte of the digit 0; the others follow it
abbrev pub DIGIT : ℕ
DIGIT = 48

-- the last k decimal digits of n, or all of them where there are fewer, most significant first
unfoldable pub last_digits : ℕ → ℕ → List ℕ
last_digits zero n = []
last_digits (suc k) n = pick (ltb n 10) ((DIGIT + n) ∷ []) (last_digits k (n / 10) ++ (DIGIT + n % 10) ∷ [])

-- the decimal digits of n: there are never more than n + 1
unfoldable pub digits_of : ℕ → List ℕ
digits_of n = last_digits (suc n) n

-- numbers after another one: each follows a comma
unfoldable pub further_text : List ℕ → List ℕ
further_text [] = []
further_text (n ∷ rest) = COMMA ∷ digits_of n ++ further_text rest

-- the numbers of a record, split by commas
unfoldable pub record_text : List ℕ → List ℕ
record_text [] = []
record_text (n ∷ rest) = digits_of n ++ further_text rest

-- what is left of a line after a number: further numbers, and the record's end
unfoldable pub rest_text : List ℕ → List ℕ
rest_text rest = further_text rest ++ CR ∷ LF ∷ []

-- a record with its end
unfoldable pub line_text : List ℕ → List ℕ
line_text row = record_text row ++ CR ∷ LF ∷ []
