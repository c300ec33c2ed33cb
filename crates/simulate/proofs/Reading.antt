-- A file of records, from one read to the next. Assumes nothing.
use Prim.Native.Nat.{ℕ}
use mathlib.Core.Path.{◌≡◌, refl, sym, ◌∙◌}
use mathlib.Core.List.{List, [], ◌∷◌, ◌++◌}
use Rattle.std.specs.Prelude.{Ok, Err}
use native.Mathlib.Omega.{arith}
use Rattle.text_digits.specs.Lines.{CR}
use Rattle.text_scans.specs.Scans.{begin, untouched, feed}
use Rattle.text_scans.specs.declared.Step.{Step}
use Rattle.text_scans.specs.declared.Step.TheVariants.{More, Field, Complete, Breaks}
use Rattle.program_files.specs.Files.{File, Standing, standing, file_on, file_end, end_of}
use Rattle.program_files.specs.declared.Unread.{Unread}
use Rattle.program_files.specs.declared.Unread.TheVariants.{Broken, Lost}
use Rattle.program_steps.specs.Steps.{pieces_on, read_file}
use Rattle.simulate.specs.Private.{SomeRead, ChunksRead, ChunksBefore, FileRead}

module _ (fields : ℕ) where
  piece_after : (so : Standing) (list : List ℕ) (pieces : List (List ℕ)) (chunk : List ℕ)
      → pieces_on fields so list (pieces ++ (chunk ∷ [])) ≡ file_on fields (pieces_on fields so list pieces).0 (pieces_on fields so list pieces).1 chunk
  unfolding pieces_on
  piece_after so list [] chunk = refl
  piece_after so list (piece ∷ rest) chunk = piece_after (file_on fields so list piece).0 (file_on fields so list piece).1 rest chunk

  -- an end that is lost brings nothing more
  end_lost : (so : Standing) (list : List ℕ) → Err Lost ≡ (file_end fields so list).0 → (file_end fields so list).1 ≡ list
  unfolding file_end end_of
  end_lost (Ok so) list e = by (feed so.scan CR fields) e
    where
      by : (step : Step) → Err Lost ≡ (end_of step (untouched so.scan) so.records so.index list).0 → (end_of step (untouched so.scan) so.records so.index list).1 ≡ list
      by (More next) e = refl
      by (Field field number next) e = absurd (let z : ◌≡◌ {A = ℕ} 0 1 = cc in omega arith)
      by Complete e = refl
      by Breaks e = refl
  end_lost (Err unread) list e = refl

  -- where the reads have led
  pub record Stands (list₀ : List ℕ) (so : Standing) (list : List ℕ) : Type 0 where
    pub pieces : List (List ℕ)
    pub stands : so ≡ (pieces_on fields (standing 0 0 begin) list₀ pieces).0
    pub holds : list ≡ (pieces_on fields (standing 0 0 begin) list₀ pieces).1

  pub stands_first : (list₀ : List ℕ) → Stands list₀ (standing 0 0 begin) list₀
  unfolding pieces_on
  stands_first list₀ = record { pieces = []; stands = refl; holds = refl }

  module _ {list₀ list : List ℕ} {so : Standing} (at : Stands list₀ so list) where
    pub read_then : (chunk : List ℕ) {so' : Standing} {list' : List ℕ} → so' ≡ (file_on fields so list chunk).0 → list' ≡ (file_on fields so list chunk).1 → Stands list₀ so' list'
    read_then chunk stands holds =
        record {
          pieces = at.pieces ++ (chunk ∷ []);
          stands = rw (piece_after (standing 0 0 begin) list₀ at.pieces chunk, sym at.stands, sym at.holds) stands;
          holds = rw (piece_after (standing 0 0 begin) list₀ at.pieces chunk, sym at.stands, sym at.holds) holds;
        }

    -- a read that brings nothing
    pub none_more : {list' : List ℕ} → list' ≡ list → Stands list₀ so list'
    none_more same = record { pieces = at.pieces; stands = at.stands; holds = same ∙ at.holds }

    -- a read that fails
    pub lost : FileRead (Err Lost) fields list₀ list
    lost = record { pieces = at.pieces; holds = at.holds }

    pub read_fails : (list' : List ℕ) (unread : Unread) → SomeRead (Err unread) fields so list list' → FileRead (Err unread) fields list₀ list'
    read_fails list' (Broken place) never = absurd never
    read_fails list' Lost same = record { pieces = at.pieces; holds = same ∙ at.holds }

    pub read_to_its_end : {list' : List ℕ} (file : File) → file ≡ (file_end fields so list).0 → list' ≡ (file_end fields so list).1 → FileRead file fields list₀ list'
    unfolding read_file
    read_to_its_end {list'} file found stored =
        by file found (record { pieces = at.pieces; found = rw (at.stands, at.holds) at found; holds = rw (at.stands, at.holds) at stored })
      where
        by : (file : File) → file ≡ (file_end fields so list).0 → ChunksRead fields list₀ file list' → FileRead file fields list₀ list'
        by (Ok n) found read = read
        by (Err (Broken place)) found read = read
        by (Err Lost) found read = record { pieces = at.pieces; holds = stored ∙ end_lost so list found ∙ at.holds }

  -- a file that can't be opened
  pub unopened : (list : List ℕ) → FileRead (Err Lost) fields list list
  unopened list = lost (stands_first list)
