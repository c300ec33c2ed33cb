-- Bytes written into a lent buffer from a position on, where they fit; else the buffer stays as it came.
use Rattle.std.specs.Prelude.{ℕ, ◌+◌, List, leb, length, Result, Ok, Err}
use Rattle.std.proofs.lemmas.List.Edits.{sets}
use Rattle.whole.specs.Search.{pick}
use Rattle.refusals.specs.declared.Refusal.{Refusal}
use Rattle.refusals.specs.declared.Refusal.TheVariants.{Length}

-- 1: the bytes do not fit
abbrev pub no_room : Result ℕ Refusal
no_room = Err Length

unfoldable pub written : List ℕ → ℕ → List ℕ → Result ℕ Refusal
written buffer at bytes = pick (leb (at + length bytes) (length buffer)) (Ok (at + length bytes)) no_room

unfoldable pub after_writing : List ℕ → ℕ → List ℕ → List ℕ
after_writing buffer at bytes = pick (leb (at + length bytes) (length buffer)) (sets buffer at bytes) buffer

-- the rest of a line of seven numbers takes at most 128 bytes: it is written where so many have room
unfoldable pub rest_written : List ℕ → ℕ → List ℕ → Result ℕ Refusal
rest_written buffer at bytes = pick (leb (at + 128) (length buffer)) (Ok (at + length bytes)) no_room

unfoldable pub after_rest : List ℕ → ℕ → List ℕ → List ℕ
after_rest buffer at bytes = pick (leb (at + 128) (length buffer)) (sets buffer at bytes) buffer
