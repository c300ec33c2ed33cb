-- How the demand goes on, from one read to the next. Assumes nothing.
use Prim.Native.Nat.{ℕ}
use mathlib.Core.Path.{◌≡◌, refl}
use mathlib.Core.List.{List, [], ◌∷◌, ◌++◌, append_assoc}
use lib.ListN.{length}
use Rattle.refusals.specs.declared.Refusal.{Refusal}
use Rattle.std.specs.Prelude.{Some, None, Result, Ok, Err}
use Rattle.refusals.specs.Checks.{Answer, accepted, answer}
use Rattle.layout.specs.Corridor.{Corridor}
use Rattle.text_scans.specs.Scans.{begin}
use Rattle.text_scans.specs.declared.Scan.{Scan}
use Rattle.period.specs.Sharing.{Sharing}
use Rattle.program_steps.specs.Demand.{How, later, over, refused, Followed, follow, follow_end, follow_checks, if_accepted, follow_call, end_call, run_of, Leaves}
use Rattle.program_steps.specs.Private.{Leads}
use Rattle.program_steps.specs.declared.Run.{Run}
use Rattle.program_steps.proofs.Sheets.{Within, follow_within}
use Rattle.program_steps.proofs.Leading.{leads_here, next_chunk_leads}
use Rattle.simulate.specs.Private.{LastCall, refuses, ends, unfits, Closes, Going, at_end, Goes, GoesOn}
use Rattle.simulate.specs.declared.Attempt.{Attempt}
use Rattle.simulate.specs.declared.Failure.{Failure}
use Rattle.simulate.specs.declared.Failure.TheVariants.{Lost, Shut, Refused}

-- what the last call's answer closes with; nothing is said of one that goes on
abbrev pub Closing : Result Run Refusal → (Answer → Type 0) → Type 0
Closing (Ok (Run.On read k scan at)) P = Unit {0}
Closing (Ok (Run.Over at)) P = P accepted
Closing (Err refusal) P = P (Err refusal)

module _ (way : Sharing) (k : ℕ) (scan : Scan) (row : List ℕ) (c : Corridor) (sheet left : List ℕ) where
  pub leads_then : (pieces pieces' : List (List ℕ)) {k₁ k₂ : ℕ} {scan₁ scan₂ : Scan} {row₁ : List ℕ} {c₁ : Corridor} {sheet₁ left₁ row₂ : List ℕ} {c₂ : Corridor} {sheet₂ left₂ : List ℕ}
      → Leads way k scan row c sheet left pieces k₁ scan₁ row₁ c₁ sheet₁ left₁
      → Leads way k₁ scan₁ row₁ c₁ sheet₁ left₁ pieces' k₂ scan₂ row₂ c₂ sheet₂ left₂
      → Leads way k scan row c sheet left (pieces ++ pieces') k₂ scan₂ row₂ c₂ sheet₂ left₂
  leads_then pieces pieces' first then =
      record {
        lines = first.lines ++ then.lines;
        on = λ more out follows. rw (append_assoc pieces pieces' more, append_assoc first.lines then.lines out) (first.on (pieces' ++ more) (then.lines ++ out) (then.on more out follows));
      }

  -- what the last call leaves
  last_closes : {k₁ : ℕ} {scan₁ : Scan} {row₁ : List ℕ} {c₁ : Corridor} {sheet₁ left₁ out : List ℕ} → Leads way k scan row c sheet left [] k₁ scan₁ row₁ c₁ sheet₁ left₁ → {f : Followed} {a : Answer} → LastCall way k₁ scan₁ row₁ c₁ sheet₁ left₁ out f a
      → {given : ℕ} {run : Result Run Refusal} {row' : List ℕ} {c' : Corridor} {sheet' out' : List ℕ} → Leaves f given out run row' c' sheet' out' → Closes a way k scan row c sheet left [] row' c' sheet' out'
  last_closes {k₁} {scan₁} {row₁} {c₁} {sheet₁} {left₁} {out} leads {f} last so =
      record {
        k₁ = k₁;
        scan₁ = scan₁;
        row₁ = row₁;
        c₁ = c₁;
        sheet₁ = sheet₁;
        left₁ = left₁;
        out₁ = out;
        leads = leads;
        f = f;
        last = last;
        leaves_row = so.leaves_row;
        leaves_corridor = so.leaves_corridor;
        leaves_sheet = so.leaves_sheet;
        writes = so.writes;
      }

  -- a call of `follow`
  pub call_closes : {k₁ : ℕ} {scan₁ : Scan} {row₁ : List ℕ} {c₁ : Corridor} {sheet₁ left₁ : List ℕ} → Leads way k scan row c sheet left [] k₁ scan₁ row₁ c₁ sheet₁ left₁
      → (out piece : List ℕ) → piece ≡ left₁ → {given run : Result Run Refusal} {row' : List ℕ} {c' : Corridor} {sheet' out' : List ℕ}
      → Leaves (follow_call way k₁ scan₁ row₁ c₁ sheet₁ out piece) (length piece) out given row' c' sheet' out' → given ≡ run
      → Closing run (λ a. Closes a way k scan row c sheet left [] row' c' sheet' out')
  unfolding run_of
  call_closes {k₁} {scan₁} {row₁} {c₁} {sheet₁} {left₁} leads out piece same {run = run} {row'} {c'} {sheet'} {out'} leaves told =
      by (answer (follow_checks c₁ row₁ sheet₁ out)) refl (rw (same, told) at leaves)
    where
      f : Followed
      f = follow way (length out) k₁ scan₁ row₁ c₁ sheet₁ left₁

      closed : (how : How) → f.how ≡ how → Within k₁ (length left₁) (length left₁) how → Leaves f (length left₁) out run row' c' sheet' out' → run ≡ run_of how (length left₁) (length f.text) → Closing run (λ a. Closes a way k scan row c sheet left [] row' c' sheet' out')
      closed (later k'' scan'' rest) is within so e = rw e tt
      closed over is within so e = rw e (last_closes leads (refuses (length out) refl is) so)
      closed (refused refusal) is within so e = absurd within

      by : (a : Answer) → answer (follow_checks c₁ row₁ sheet₁ out) ≡ a → Leaves (if_accepted a row₁ c₁ sheet₁ f) (length left₁) out run row' c' sheet' out' → Closing run (λ a. Closes a way k scan row c sheet left [] row' c' sheet' out')
      by (Ok done) is so = closed f.how refl (follow_within way (length out) k₁ scan₁ row₁ c₁ sheet₁ left₁) so so.answered
      by (Err refusal) is so = rw so.answered (last_closes leads (unfits refusal is refl) so)

module _ (way : Sharing) (k : ℕ) (scan : Scan) (row : List ℕ) (c : Corridor) (sheet : List ℕ) where
  -- the demand's end; its call never goes on
  pub end_closes : (out : List ℕ) {given run : Result Run Refusal} {row' : List ℕ} {c' : Corridor} {sheet' out' : List ℕ} → Leaves (end_call way k scan row c sheet out) 0 out given row' c' sheet' out' → given ≡ run
      → Closing run (λ a. Closes a way k scan row c sheet [] [] row' c' sheet' out')
  unfolding run_of follow_end
  end_closes out {run = run} {row'} {c'} {sheet'} {out'} leaves told = by (answer (follow_checks c row sheet out)) refl (rw told at leaves)
    where
      here : Leads way k scan row c sheet [] [] k scan row c sheet []
      here = leads_here way k scan row c sheet []

      by : (a : Answer) → answer (follow_checks c row sheet out) ≡ a → Leaves (if_accepted a row c sheet (follow_end way k scan row c sheet)) 0 out run row' c' sheet' out' → Closing run (λ a. Closes a way k scan row c sheet [] [] row' c' sheet' out')
      by (Ok done) is so = rw so.answered (last_closes way k scan row c sheet [] here (ends refl refl) so)
      by (Err refusal) is so = rw so.answered (last_closes way k scan row c sheet [] here (unfits refusal is refl) so)

module _ {way : Sharing} {k : ℕ} {scan : Scan} {row : List ℕ} {c : Corridor} {sheet : List ℕ} where
  -- the same last call, led to from elsewhere
  led_from : {k₀ : ℕ} {scan₀ : Scan} {row₀ : List ℕ} {c₀ : Corridor} {sheet₀ left₀ left : List ℕ} {pieces₀ pieces : List (List ℕ)} {a : Answer} {row' : List ℕ} {c' : Corridor} {sheet' out' : List ℕ} (closes : Closes a way k scan row c sheet left pieces row' c' sheet' out')
      → Leads way k₀ scan₀ row₀ c₀ sheet₀ left₀ pieces₀ closes.k₁ closes.scan₁ closes.row₁ closes.c₁ closes.sheet₁ closes.left₁ → Closes a way k₀ scan₀ row₀ c₀ sheet₀ left₀ pieces₀ row' c' sheet' out'
  led_from closes leads =
      record {
        k₁ = closes.k₁;
        scan₁ = closes.scan₁;
        row₁ = closes.row₁;
        c₁ = closes.c₁;
        sheet₁ = closes.sheet₁;
        left₁ = closes.left₁;
        out₁ = closes.out₁;
        leads = leads;
        f = closes.f;
        last = closes.last;
        leaves_row = closes.leaves_row;
        leaves_corridor = closes.leaves_corridor;
        leaves_sheet = closes.leaves_sheet;
        writes = closes.writes;
      }

  -- a read that fails
  pub read_fails : {out' : List ℕ} → GoesOn (Err (Lost k)) way k scan row c sheet row c sheet out'
  read_fails = record { pieces = []; goes = (scan, leads_here way k scan row c sheet []) }

  -- a chunk that a read brings
  pub chunk_goes : {row' : List ℕ} {c' : Corridor} {sheet' out' : List ℕ} (next : Going) (chunk : List ℕ) → Goes next way k scan row c sheet chunk [] row' c' sheet' out' → GoesOn next way k scan row c sheet row' c' sheet' out'
  chunk_goes (Ok (Some now)) chunk goes = record { pieces = chunk ∷ []; goes = next_chunk_leads way k scan row c sheet chunk goes }
  chunk_goes (Ok None) chunk goes = record { pieces = chunk ∷ []; goes = led_from goes (next_chunk_leads way k scan row c sheet chunk goes.leads) }
  chunk_goes (Err (Lost k')) chunk goes = record { pieces = chunk ∷ []; goes = (goes.0, next_chunk_leads way k scan row c sheet chunk goes.1) }
  chunk_goes (Err Shut) chunk goes = record { pieces = []; goes = tt }
  chunk_goes (Err (Refused refusal)) chunk goes = record { pieces = chunk ∷ []; goes = led_from goes (next_chunk_leads way k scan row c sheet chunk goes.leads) }

-- the reads from period 1 on
module _ (way : Sharing) (row : List ℕ) (c : Corridor) (sheet : List ℕ) where
  -- where they have led
  pub record Stands (now : Attempt) (row' : List ℕ) (c' : Corridor) (sheet' : List ℕ) : Type 0 where
    pub pieces : List (List ℕ)
    pub leads : Leads way 1 begin row c sheet [] pieces now.k now.scan row' c' sheet' []

  pub stands_first : Stands (record { k = 1; scan = begin }) row c sheet
  stands_first = record { pieces = []; leads = leads_here way 1 begin row c sheet [] }

  module _ {now : Attempt} {row₁ : List ℕ} {c₁ : Corridor} {sheet₁ : List ℕ} (so : Stands now row₁ c₁ sheet₁) where
    module _ {row' : List ℕ} {c' : Corridor} {sheet' out' : List ℕ} where
      closed_then : {a : Answer} (pieces : List (List ℕ)) → Closes a way now.k now.scan row₁ c₁ sheet₁ [] pieces row' c' sheet' out' → Closes a way 1 begin row c sheet [] (so.pieces ++ pieces) row' c' sheet' out'
      closed_then pieces then = led_from then (leads_then way 1 begin row c sheet [] so.pieces pieces so.leads then.leads)

      -- what the demand comes to from here is what it comes to from its start
      pub goes_then : (next : Going) → GoesOn next way now.k now.scan row₁ c₁ sheet₁ row' c' sheet' out' → GoesOn next way 1 begin row c sheet row' c' sheet' out'
      goes_then (Ok (Some next)) then = record { pieces = so.pieces ++ then.pieces; goes = leads_then way 1 begin row c sheet [] so.pieces then.pieces so.leads then.goes }
      goes_then (Ok None) then = record { pieces = so.pieces ++ then.pieces; goes = closed_then then.pieces then.goes }
      goes_then (Err (Lost k)) then = record { pieces = so.pieces ++ then.pieces; goes = (then.goes.0, leads_then way 1 begin row c sheet [] so.pieces then.pieces so.leads then.goes.1) }
      goes_then (Err Shut) then = record { pieces = []; goes = tt }
      goes_then (Err (Refused refusal)) then = record { pieces = so.pieces ++ then.pieces; goes = closed_then then.pieces then.goes }

      -- one more chunk
      pub stands_then : {next : Attempt} → GoesOn (Ok (Some next)) way now.k now.scan row₁ c₁ sheet₁ row' c' sheet' out' → Stands next row' c' sheet'
      stands_then then = record { pieces = so.pieces ++ then.pieces; leads = leads_then way 1 begin row c sheet [] so.pieces then.pieces so.leads then.goes }

    -- a read that fails
    pub lost : {out' : List ℕ} → GoesOn (Err (Lost now.k)) way 1 begin row c sheet row₁ c₁ sheet₁ out'
    lost = record { pieces = so.pieces; goes = (now.scan, so.leads) }
