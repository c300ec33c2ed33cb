-- From one standing of the demand to the next: what the program's loops keep. Assumes nothing.
use Prim.Native.Nat.{ℕ, ◌+◌, ◌-◌, ◌≤◌}
use mathlib.Core.Path.{◌≡◌, refl, sym}
use mathlib.Core.List.{List, [], ◌∷◌, ◌++◌, append_assoc}
use native.Mathlib.Omega.{arith}
use lib.ListN.{length, drop, drop_of_length-le}
use lib.Seq.{drop-drop}
use Rattle.refusals.specs.declared.Refusal.{Refusal}
use Rattle.std.specs.Prelude.{Ok, Err, Result}
use Rattle.refusals.specs.Checks.{answer, Answer}
use Rattle.layout.specs.Corridor.{Corridor}
use Rattle.text_scans.specs.declared.Scan.{Scan}
use Rattle.period.specs.Sharing.{Sharing}
use Rattle.program_steps.specs.Demand.{How, later, over, refused, Followed, follow, follow_checks, if_accepted, follow_call, run_of, Leaves}
use Rattle.program_steps.specs.Steps.{next_chunk, call}
use Rattle.program_steps.specs.declared.Run.{Run}
use Rattle.program_steps.specs.declared.Run.TheVariants.{On}
use Rattle.program_steps.specs.Private.{Leads}

module _ (way : Sharing) (k₀ : ℕ) (scan₀ : Scan) (row₀ : List ℕ) (c₀ : Corridor) (sheet₀ chunk : List ℕ) where
  abbrev pub LeadsTo : ℕ → Scan → List ℕ → Corridor → List ℕ → List ℕ → Type 0
  LeadsTo k scan row c sheet left = Leads way k₀ scan₀ row₀ c₀ sheet₀ chunk [] k scan row c sheet left

  pub leads_here : LeadsTo k₀ scan₀ row₀ c₀ sheet₀ chunk
  leads_here = record { lines = []; on = λ more out follows. follows }

  -- a call of `follow` that goes on
  pub call_leads : {k : ℕ} {scan : Scan} {row : List ℕ} {c : Corridor} {sheet : List ℕ} (from : ℕ) → LeadsTo k scan row c sheet (drop from chunk) → (out piece : List ℕ) → piece ≡ drop from chunk → {run : Result Run Refusal} {read k' at : ℕ} {scan' : Scan} {row' : List ℕ} {c' : Corridor} {sheet' out' : List ℕ}
      → Leaves (follow_call way k scan row c sheet out piece) (length piece) out run row' c' sheet' out' → run ≡ Ok (On read k' scan' at) → LeadsTo k' scan' row' c' sheet' (drop (from + read) chunk)
  unfolding run_of
  call_leads {k} {scan} {row} {c} {sheet} from leads out piece same {read = read} {k'} {at} {scan'} {row'} {c'} {sheet'} {out'} left told =
      by (answer (follow_checks c row sheet out)) same_left.answered same_left.leaves_row same_left.leaves_corridor same_left.leaves_sheet
    where
      same_left : Leaves (follow_call way k scan row c sheet out (drop from chunk)) (length (drop from chunk)) out (Ok (On read k' scan' at)) row' c' sheet' out'
      same_left = rw (same, told) at left

      f : Followed
      f = follow way (length out) k scan row c sheet (drop from chunk)

      goes : (how : How) → f.how ≡ how → Ok (On read k' scan' at) ≡ run_of how (length (drop from chunk)) (length f.text) → LeadsTo k' scan' f.row f.corridor f.sheet (drop (from + read) chunk)
      goes (later k'' scan'' rest) is e =
          let same-k : k'' ≡ k' = cc in
          let same_scan : scan'' ≡ scan' = cc in
          let so_many : read ≡ length (drop from chunk) - rest = cc in
          record {
            lines = leads.lines ++ f.text;
            on = λ more later-lines follows.
                rw (append_assoc leads.lines f.text later-lines)
                (leads.on more (f.text ++ later-lines)
                (call {k' = k'} {scan' = scan'} (length out) rest f refl (rw (sym same-k, sym same_scan) is) (rw (drop-drop (length (drop from chunk) - rest) from chunk, sym so_many) follows)));
          }
      goes over is e = absurd (let z : ◌≡◌ {A = ℕ} 0 1 = cc in omega arith)
      goes (refused why) is e = absurd (let z : ◌≡◌ {A = ℕ} 0 1 = cc in omega arith)

      by : (a : Answer) → Ok (On read k' scan' at) ≡ run_of (if_accepted a row c sheet f).how (length (drop from chunk)) (length (if_accepted a row c sheet f).text) → row' ≡ (if_accepted a row c sheet f).row
          → c' ≡ (if_accepted a row c sheet f).corridor → sheet' ≡ (if_accepted a row c sheet f).sheet → LeadsTo k' scan' row' c' sheet' (drop (from + read) chunk)
      by (Ok done) e r s h = rw (r, s, h) (goes f.how refl e)
      by (Err why) e r s h = absurd (let z : ◌≡◌ {A = ℕ} 0 1 = cc in omega arith)

  -- the chunk is used up
  pub leads_to_its_end : {k : ℕ} {scan : Scan} {row : List ℕ} {c : Corridor} {sheet : List ℕ} (from : ℕ) → LeadsTo k scan row c sheet (drop from chunk) → length chunk ≤ from → LeadsTo k scan row c sheet []
  leads_to_its_end from leads past = rw (drop_of_length-le chunk past) at leads

  pub next_chunk_leads : {k : ℕ} {scan : Scan} {row : List ℕ} {c : Corridor} {sheet left : List ℕ} → LeadsTo k scan row c sheet left → Leads way k₀ scan₀ row₀ c₀ sheet₀ [] (chunk ∷ []) k scan row c sheet left
  next_chunk_leads leads = record { lines = leads.lines; on = λ more out follows. next_chunk (leads.on more out follows) }
