-- An answer as one word.
use Rattle.refusals.specs.Checks.{Answer}
use Rattle.std.specs.Prelude.{ℕ, ◌+◌, ◌*◌, Ok, Err}
use Rattle.refusals.specs.Refusals.{number_of, place_of}

-- 2^32, above every place
abbrev pub PLACES : ℕ
PLACES = 4_294_967_296

-- 2^40, above every number and place together
abbrev pub ANSWERS : ℕ
ANSWERS = 1_099_511_627_776

-- count × 2^40 + number × 2^32 + place, with number and place 0 for accepted. The count is of the periods that a run completed.
abbrev pub word_of : ℕ → Answer → ℕ
word_of count (Ok done) = count * ANSWERS
word_of count (Err refusal) = count * ANSWERS + number_of refusal * PLACES + place_of refusal
