-- Cited by private contracts and proofs alone: no public promise rests on this file.
-- What the loops of system calls keep. No contract says which bytes a read brings; these say that the steps take them one after the other, each
-- from what the last one left.
use Rattle.std.specs.Prelude.{ℕ, ◌≡◌, List, [], Option, Some, None, Result, Ok, Err}
use Rattle.std.proofs.lemmas.List.Edits.{sets}
use Rattle.refusals.specs.declared.Refusal.{Refusal}
use Rattle.refusals.specs.Checks.{Answer, accepted, answer}
use Rattle.layout.specs.Corridor.{Corridor}
use Rattle.text_scans.specs.Scans.{begin}
use Rattle.text_scans.specs.declared.Scan.{Scan}
use Rattle.period.specs.Sharing.{Sharing}
use Rattle.program_files.specs.Files.{File, Standing, standing, file_on}
use Rattle.program_files.specs.declared.Unread.{Unread}
use Rattle.program_files.specs.declared.Unread.TheVariants.{Broken, Lost}
use Rattle.program_steps.specs.Demand.{over, refused, Followed, silent, follow_checks, follow, follow_end}
use Rattle.program_steps.specs.Steps.{chunks, pieces_on, read_file}
use Rattle.program_steps.specs.Private.{Leads}
use Rattle.simulate.specs.declared.Attempt.{Attempt}
use Rattle.simulate.specs.declared.Failure.{Failure}

-- one read of a file of records: a chunk more, or nothing, and the list as it came
pub record ChunkRead (fields : ℕ) (so : Standing) (list : List ℕ) (so' : Standing) (list' : List ℕ) : Type 0 where
  pub chunk : List ℕ
  pub stands : so' ≡ (file_on fields so list chunk).0
  pub holds : list' ≡ (file_on fields so list chunk).1

abbrev pub SomeRead : Result (Option Standing) Unread → ℕ → Standing → List ℕ → List ℕ → Type 0
SomeRead (Ok (Some so')) fields so list list' = ChunkRead fields so list so' list'
SomeRead (Ok None) fields so list list' = list' ≡ list
SomeRead (Err (Broken place)) fields so list list' = ⊥
SomeRead (Err Lost) fields so list list' = list' ≡ list

-- a file of records, read to its end in chunks
pub record ChunksRead (fields : ℕ) (list : List ℕ) (file : File) (list' : List ℕ) : Type 0 where
  pub pieces : List (List ℕ)
  pub found : file ≡ (read_file fields list (chunks pieces)).0
  pub holds : list' ≡ (read_file fields list (chunks pieces)).1

-- a file that can't be read on: the list is as some chunks left it
pub record ChunksBefore (fields : ℕ) (list list' : List ℕ) : Type 0 where
  pub pieces : List (List ℕ)
  pub holds : list' ≡ (pieces_on fields (standing 0 0 begin) list pieces).1

abbrev pub FileRead : File → ℕ → List ℕ → List ℕ → Type 0
FileRead (Ok n) fields list list' = ChunksRead fields list (Ok n) list'
FileRead (Err (Broken place)) fields list list' = ChunksRead fields list (Err (Broken place)) list'
FileRead (Err Lost) fields list list' = ChunksBefore fields list list'

-- the last call for the demand: a record is refused, or the demand has ended; or the lists are not those of a run, and stay as they are
pub data LastCall (way : Sharing) (k : ℕ) (scan : Scan) (row : List ℕ) (c : Corridor) (sheet left out : List ℕ) (f : Followed) : Answer → Type 0 where
  refuses : (room : ℕ) → f ≡ follow way room k scan row c sheet left → f.how ≡ over → LastCall way k scan row c sheet left out f accepted
  ends : left ≡ [] → f ≡ follow_end way k scan row c sheet → LastCall way k scan row c sheet left out f accepted
  unfits : (refusal : Refusal) → answer (follow_checks c row sheet out) ≡ Err refusal → f ≡ silent (refused refusal) row c sheet
      → LastCall way k scan row c sheet left out f (Err refusal)

-- the calls lead to the last one, with this answer; its lines stand at the start of the output
pub record Closes (a : Answer) (way : Sharing) (k : ℕ) (scan : Scan) (row : List ℕ) (c : Corridor) (sheet left : List ℕ) (pieces : List (List ℕ)) (row' : List ℕ) (c' : Corridor) (sheet' out' : List ℕ) : Type 0 where
  pub k₁ : ℕ
  pub scan₁ : Scan
  pub row₁ : List ℕ
  pub c₁ : Corridor
  pub sheet₁ : List ℕ
  pub left₁ : List ℕ
  pub out₁ : List ℕ
  pub leads : Leads way k scan row c sheet left pieces k₁ scan₁ row₁ c₁ sheet₁ left₁
  pub f : Followed
  pub last : LastCall way k₁ scan₁ row₁ c₁ sheet₁ left₁ out₁ f a
  pub leaves_row : row' ≡ f.row
  pub leaves_corridor : c' ≡ f.corridor
  pub leaves_sheet : sheet' ≡ f.sheet
  pub writes : out' ≡ sets out₁ 0 f.text

-- a call that reads nothing loses nothing
abbrev pub NothingLost : Failure → Type 0
NothingLost (Failure.Lost k) = ⊥
NothingLost Failure.Shut = Unit {0}
NothingLost (Failure.Refused refusal) = Unit {0}

-- a read that fails is lost in the period that was tried, and changes nothing
abbrev pub LostAsItCame : Failure → ℕ → Type 0 → Type 0
LostAsItCame (Failure.Lost k') k came = (k' ≡ k) × came
LostAsItCame Failure.Shut k came = Unit {0}
LostAsItCame (Failure.Refused refusal) k came = Unit {0}

-- how the demand goes on over these chunks: a period is being tried, or the last line is written, or it comes to no end
abbrev pub Going : Type 0
Going = Result (Option Attempt) Failure

abbrev pub at_end : Result Unit Failure → Going
at_end (Ok done) = Ok None
at_end (Err failure) = Err failure

abbrev pub Goes : Going → Sharing → ℕ → Scan → List ℕ → Corridor → List ℕ → List ℕ → List (List ℕ) → List ℕ → Corridor → List ℕ → List ℕ → Type 0
Goes (Ok (Some now)) way k scan row c sheet left pieces row' c' sheet' out' = Leads way k scan row c sheet left pieces now.k now.scan row' c' sheet' []
Goes (Ok None) way k scan row c sheet left pieces row' c' sheet' out' = Closes accepted way k scan row c sheet left pieces row' c' sheet' out'
Goes (Err (Failure.Lost k')) way k scan row c sheet left pieces row' c' sheet' out' = (scan' : Scan) × Leads way k scan row c sheet left pieces k' scan' row' c' sheet' []
Goes (Err Failure.Shut) way k scan row c sheet left pieces row' c' sheet' out' = Unit {0}
Goes (Err (Failure.Refused refusal)) way k scan row c sheet left pieces row' c' sheet' out' = Closes (Err refusal) way k scan row c sheet left pieces row' c' sheet' out'

-- and over the chunks that reads bring
pub record GoesOn (next : Going) (way : Sharing) (k : ℕ) (scan : Scan) (row : List ℕ) (c : Corridor) (sheet row' : List ℕ) (c' : Corridor) (sheet' out' : List ℕ) : Type 0 where
  pub pieces : List (List ℕ)
  pub goes : Goes next way k scan row c sheet [] pieces row' c' sheet' out'
