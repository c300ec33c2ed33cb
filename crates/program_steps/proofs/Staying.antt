-- The lists of a run stay the lists of a run: after an accepted state no call of `follow` refuses them. Assumes nothing.
use Prim.Native.Nat.{ℕ, ◌-◌}
use mathlib.Core.Path.{◌≡◌, refl}
use mathlib.Core.Bool.{Bool, true, false}
use mathlib.Core.List.{List, [], ◌∷◌}
use lib.Dec.{leb}
use lib.ListN.{length, set, length-set}
use Rattle.std.specs.Prelude.{Ok, Err}
use Rattle.refusals.specs.Checks.{Answer, accepted}
use Rattle.whole.specs.Search.{pick}
use Rattle.layout.specs.Layout.{demand_length}
use Rattle.layout.specs.Corridor.{Corridor, cells_of}
use Rattle.text_scans.specs.Scans.{begin, feed}
use Rattle.text_scans.specs.declared.Scan.{Scan}
use Rattle.text_scans.specs.declared.Step.{Step}
use Rattle.text_scans.specs.declared.Step.TheVariants.{More, Field, Complete, Breaks}
use Rattle.period.specs.Sharing.{Sharing}
use Rattle.period.specs.Period.{sheet_of, corridor_after}
use Rattle.period.specs.Fair.{Fair}
use Rattle.program_files.specs.Files.{counted}
use Rattle.program_steps.specs.Turns.{lines_of, demand_answer}
use Rattle.program_steps.specs.Demand.{later, Followed, silent, after, tried, follow_of, lines_room, follow}
use Rattle.program_steps.specs.Private.{Ready}
use Rattle.program_steps.proofs.Turning.{still, moved}

module _ {way : Sharing} (fair : Fair way) where
  abbrev Stays : Followed → Type 0
  Stays f = Ready f.corridor f.row f.sheet

  pub follow_stays_ready : (room k : ℕ) (scan : Scan) (row : List ℕ) (c : Corridor) (sheet bytes : List ℕ) → Ready c row sheet → Stays (follow way room k scan row c sheet bytes)
  unfolding follow follow_of tried
  follow_stays_ready room k scan row c sheet [] ready = ready
  follow_stays_ready room k scan row c sheet (byte ∷ rest) ready =
      by (feed scan byte (demand_length (cells_of c))) (demand_answer c row) refl (leb (lines_room (cells_of c)) (room - length lines))
      (λ next now same. follow_stays_ready room k next now c sheet rest (still ready same refl refl))
      (λ accepted. follow_stays_ready (room - length lines) (counted k) begin row c' sheet' rest (moved ready refl fair accepted refl refl))
    where
      lines : List ℕ
      lines = lines_of way k c row

      c' : Corridor
      c' = corridor_after way c row

      sheet' : List ℕ
      sheet' = sheet_of way c row

      by : (step : Step) (a : Answer) → demand_answer c row ≡ a → (has : Bool)
          → ((next : Scan) (now : List ℕ) → length now ≡ length row → Stays (follow way room k next now c sheet rest))
          → (demand_answer c row ≡ accepted → Stays (follow way (room - length lines) (counted k) begin row c' sheet' rest))
          → Stays
          (follow_of step k row c sheet (λ next now. follow way room k next now c sheet rest)
          (tried a k row c sheet
          (after lines
          (pick has (follow way (room - length lines) (counted k) begin row c' sheet' rest) (silent (later (counted k) begin (length rest)) row c' sheet')))))
      by (More next) a is has on period = on next row refl
      by (Field f v next) a is has on period = on next (set row f v) (length-set row f v)
      by Breaks a is has on period = ready
      by Complete (Err why) is has on period = ready
      by Complete (Ok done) is true on period = period is
      by Complete (Ok done) is false on period = moved ready refl fair is refl refl
