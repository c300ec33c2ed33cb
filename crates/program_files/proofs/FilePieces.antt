-- A file read byte after byte, and piece after piece. Assumes nothing.
use Prim.Native.Nat.{ℕ, ◌+◌, ◌≤◌, ◌<◌}
use mathlib.Core.Path.{◌≡◌, refl, sym, ◌∙◌}
use mathlib.Core.List.{List, [], ◌∷◌, ◌++◌}
use Rattle.std.specs.Prelude.{Bool, Option, Some, None, Ok, Err}
use Rattle.whole.specs.Search.{pick}
use lib.ListN.{length, get_or, set, drop, drop_of_length-le}
use Rattle.text_digits.proofs.Stores.{rest_of}
use Rattle.text_scans.specs.Scans.{begin, feed, completed}
use Rattle.text_scans.specs.declared.LastField.{LastField}
use Rattle.text_scans.specs.declared.Step.{Step}
use Rattle.text_scans.specs.declared.Step.TheVariants.{More, Field, Complete, Breaks}
use Rattle.program_files.specs.Files.{Standing, File, standing, counted, next_index, file_of, file_on, end_of}
use Rattle.program_files.specs.declared.Unread.{Unread}
use Rattle.program_files.specs.declared.Unread.TheVariants.{Broken}

pub stays_unread : (fields : ℕ) (unread : Unread) (list bytes : List ℕ) → file_on fields (Err unread) list bytes ≡ (Err unread, list)
unfolding file_on
stays_unread fields unread list [] = refl
stays_unread fields unread list (byte ∷ rest) = refl

-- the end of a file by the last field that it completes
abbrev pub end_with : Option LastField → Bool → ℕ → ℕ → List ℕ → File × List ℕ
end_with (Some last) between n index list = (Ok (counted n), set list index last.number)
end_with None between n index list = (pick between (Ok n) (Err (Broken (counted n))), list)

pub by_last_field : (step : Step) (between : Bool) (n index : ℕ) (list : List ℕ) → end_of step between n index list ≡ end_with (completed step) between n index list
unfolding end_of
by_last_field (More next) between n index list = refl
by_last_field (Field field number next) between n index list = refl
by_last_field Complete between n index list = refl
by_last_field Breaks between n index list = refl

-- piece after piece is all at once
pub file_in_pieces : (fields : ℕ) (so : Standing) (list a b : List ℕ) → file_on fields so list (a ++ b) ≡ file_on fields (file_on fields so list a).0 (file_on fields so list a).1 b
unfolding file_on file_of
file_in_pieces fields so list [] b = refl
file_in_pieces fields (Err unread) list (byte ∷ a) b = sym (stays_unread fields unread list b)
file_in_pieces fields (Ok at) list (byte ∷ a) b = by (feed at.scan byte fields) (λ so then. file_in_pieces fields so then a b)
  where
    by : (step : Step) → ((so : Standing) (then : List ℕ) → file_on fields so then (a ++ b) ≡ file_on fields (file_on fields so then a).0 (file_on fields so then a).1 b)
        → file_of step at.records at.index list (λ so then. file_on fields so then (a ++ b))
        ≡ file_on fields (file_of step at.records at.index list (λ so then. file_on fields so then a)).0 (file_of step at.records at.index list (λ so then. file_on fields so then a)).1 b
    by (More next) same = same (standing at.records at.index next) list
    by (Field f v next) same = same (standing at.records (next_index (length list) at.index) next) (set list at.index v)
    by Complete same = same (standing (counted at.records) at.index begin) list
    by Breaks same = same (Err (Broken (counted at.records))) list

-- the loop over a piece: what is left to read settles what is read in all
abbrev pub Left : ℕ → List ℕ → Standing → List ℕ → ℕ → Standing → List ℕ → Type 0
Left fields chunk so₀ list₀ i so list = file_on fields so list (drop i chunk) ≡ file_on fields so₀ list₀ chunk

pub one_less : (fields : ℕ) (chunk : List ℕ) (i : ℕ) (so₀ so next : Standing) (list₀ list later : List ℕ) → i < length chunk
    → next ≡ (file_on fields so list (get_or chunk i 0 ∷ [])).0 → later ≡ (file_on fields so list (get_or chunk i 0 ∷ [])).1
    → Left fields chunk so₀ list₀ i so list → Left fields chunk so₀ list₀ (i + 1) next later
one_less fields chunk i so₀ so next list₀ list later h p q left =
    rw (p, q) (sym (file_in_pieces fields so list (get_or chunk i 0 ∷ []) (drop (i + 1) chunk))) ∙ rw (rest_of chunk i h) at left

pub none_left : (fields : ℕ) (chunk : List ℕ) (i : ℕ) (so₀ so : Standing) (list₀ list : List ℕ) → length chunk ≤ i → Left fields chunk so₀ list₀ i so list
    → (so, list) ≡ file_on fields so₀ list₀ chunk
unfolding file_on
none_left fields chunk i so₀ so list₀ list h left = rw (drop_of_length-le chunk h) at left
