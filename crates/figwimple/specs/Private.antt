-- Cited by private contracts and proofs alone: no public promise rests on this file.
-- What making a word asks of a count and of an answer.
use Rattle.refusals.specs.Checks.{Answer}
use Rattle.std.specs.Prelude.{ℕ, ◌<◌, Ok, Err}
use Rattle.refusals.specs.Refusals.{place_of}
use Rattle.figwimple.specs.Words.{PLACES}

-- 2^24: a count below it fits the word's upper bits
abbrev pub COUNTS : ℕ
COUNTS = 16_777_216

-- the place of an answer fits the word's lower half
abbrev pub Placed : Answer → Type 0
Placed (Ok done) = Unit
Placed (Err refusal) = place_of refusal < PLACES
