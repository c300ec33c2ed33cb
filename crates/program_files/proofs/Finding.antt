-- What it tells that the program goes on after the cells, and after the state. Assumes nothing.
use Prim.Native.Nat.{ℕ, ◌≤◌}
use mathlib.Core.Path.{◌≡◌, refl, ap}
use mathlib.Core.Bool.{Bool, true, false}
use native.Mathlib.Omega.{arith}
use borrow.Author.Tests.{leb-true, eqb-true}
use lib.Dec.{leb, eqb}
use Rattle.std.specs.Prelude.{Ok, Err}
use Rattle.whole.specs.Search.{pick, within}
use Rattle.whole.proofs.Tests.{both_hold}
use Rattle.refusals.specs.declared.Refusal.TheVariants.{Length}
use Rattle.refusals.specs.Checks.{Answer, accepted, answer}
use Rattle.layout.specs.Layout.{MOST}
use Rattle.layout.specs.Corridor.{Corridor}
use Rattle.accept_rows.specs.Acceptance.{state_checks}
use Rattle.program_files.specs.Stops.{broken, refused_in}
use Rattle.program_files.specs.Files.{File, Found, cells_found, state_found, accepted_then}
use Rattle.program_files.specs.declared.Stop.{Stop}
use Rattle.program_files.specs.declared.Unread.TheVariants.{Broken, Lost}

no_halt : {A : Type 0} (stop : Stop) (n : ℕ) → ◌≡◌ {A = Found} (Err stop) (Ok n) → A
no_halt stop n e = absurd (let z : ◌≡◌ {A = ℕ} 0 1 = cc in omega arith)

-- at least 1 cell and at most 512, and the file held as many records
pub record Cells (file : File) (n : ℕ) : Type 0 where
  pub held : file ≡ Ok n
  pub some : 1 ≤ n
  pub most : n ≤ MOST

pub cells_told : (file : File) (n : ℕ) → cells_found file ≡ Ok n → Cells file n
unfolding cells_found
cells_told (Err Lost) n e = no_halt _ n e
cells_told (Err (Broken place)) n e = no_halt _ n e
cells_told (Ok m) n e = by (within 1 MOST m) refl e
  where
    by : (b : Bool) → within 1 MOST m ≡ b → pick b (Ok m) (Err (refused_in 0 Length)) ≡ Ok n → Cells (Ok m) n
    by false is e = no_halt _ n e
    by true is e =
        let same : m ≡ n = cc in
        let both = both_hold (leb 1 m) (leb m MOST) is in
        rw (← same) (record { held = refl; some = leb-true 1 m both.0; most = leb-true m MOST both.1 })

-- one record, and a table and a state that are accepted
pub record State (file : File) (c : Corridor) : Type 0 where
  pub held : file ≡ Ok 1
  pub accepted : answer (state_checks c) ≡ accepted

then_told : (a : Answer) (n : ℕ) → accepted_then a ≡ Ok n → a ≡ accepted
unfolding accepted_then
then_told (Ok done) n e = refl
then_told (Err refusal) n e = no_halt _ n e

pub state_told : (file : File) (c : Corridor) (n : ℕ) → state_found file c ≡ Ok n → State file c
unfolding state_found
state_told (Err Lost) c n e = no_halt _ n e
state_told (Err (Broken place)) c n e = no_halt _ n e
state_told (Ok m) c n e = by (eqb m 0) (eqb m 1) refl e
  where
    by : (none one : Bool) → eqb m 1 ≡ one → pick none (Err (broken 0 1 2)) (pick one (accepted_then (answer (state_checks c))) (Err (broken 0 2 2))) ≡ Ok n → State (Ok m) c
    by true one is e = no_halt _ n e
    by false false is e = no_halt _ n e
    by false true is e = record { held = ap Ok (eqb-true m 1 is); accepted = then_told _ n e }
