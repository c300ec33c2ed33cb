-- Step 4 once had one more line: where f + s would pass n, s was n − f. That never came to be, for any kind of off-ramp, and so every answer of the
-- rule with that line is an answer of the rule without it. Assumes nothing.
use Prim.Native.Nat.{ℕ, suc, ◌+◌, ◌-◌, ◌≤◌, ◌<◌}
use mathlib.Core.Path.{◌≡◌, ap, ◌∙◌}
use mathlib.Core.List.{List, [], ◌∷◌, ◌++◌}
use borrow.Author.Tests.{le-leb}
use lib.Dec.{leb}
use Rattle.whole.specs.Share.{ONE}
use Rattle.whole.specs.Lists.{build}
use Rattle.whole.specs.Search.{pick}
use Rattle.whole.proofs.Lists.{build-length, build_at, is_build}
use Rattle.layout.specs.declared.Row.{Row}
use Rattle.layout.specs.Layout.{off_demand_at}
use Rattle.layout.specs.Sheet.{sheet_from}
use Rattle.layout.specs.Corridor.{Corridor, cells_of, row_of, count_of}
use Rattle.accept_tables.proofs.Accepted.{TableFits}
use Rattle.accept_rows.proofs.Accepted.{StateFits, RowFits}
use Rattle.period.specs.Cell.{M, off_flow}
use Rattle.period.specs.Sharing.{Sharing}
use Rattle.period.specs.Fair.{Fair}
use Rattle.period.specs.Updated.{updated}
use Rattle.period.specs.Period.{flow_at, off_flow_at, on_flow_at, mode_at, sheet_of, state_after}
use Rattle.period.proofs.Fair.{leaves_what_it_has}
use Rattle.period.proofs.Laws.{what_leaves_is_in_the_cell}

-- s with that line
abbrev pub cut_flow : Row → ℕ → ℕ → ℕ → ℕ
cut_flow r n o f = pick (leb (f + off_flow r n o f) n) (off_flow r n o f) (n - f)

-- for every row in range and every flow f that a cell may send
pub never_cut : (r : Row) (n o f : ℕ) → r.v ≤ ONE → r.b < ONE → f ≤ M r n o → cut_flow r n o f ≡ off_flow r n o f
never_cut r n o f v b h = rw (le-leb (f + off_flow r n o f) n (leaves_what_it_has r n o f v b h))

same_build : (n : ℕ) {f g : ℕ → ℕ} → ((i : ℕ) → i < n → f i ≡ g i) → build n f ≡ build n g
same_build n {f} {g} same = is_build 0 (build n f) n g (build-length n f) λ i h. build_at n f i 0 h ∙ same i h

-- an accepted period with that line: its off-ramp flows, its sheet and the state after it
module _ (way : Sharing) (fair : Fair way) (c : Corridor) (demand : List ℕ) (t : TableFits c.table) (s : StateFits c) (d : RowFits c demand) where
  abbrev pub cut_flow_at : ℕ → ℕ
  cut_flow_at i = cut_flow (row_of c i) (count_of c i) (off_demand_at (cells_of c) demand i) (flow_at way c demand (suc i))

  abbrev pub cut_sheet : List ℕ
  cut_sheet = sheet_from (cells_of c) (flow_at way c demand) cut_flow_at (on_flow_at way c demand) (mode_at way c demand)

  pub flow_never_cut : (i : ℕ) → i < cells_of c → cut_flow_at i ≡ off_flow_at way c demand i
  unfolding off_flow_at
  flow_never_cut i h = rw (le-leb _ _ (what_leaves_is_in_the_cell way fair c demand t s d i h))

  pub sheet_never_cut : cut_sheet ≡ sheet_of way c demand
  unfolding sheet_from sheet_of
  sheet_never_cut =
      let n = cells_of c in
      let after = build n (on_flow_at way c demand) ++ (build n (mode_at way c demand) ++ []) in
      ap (λ column. flow_at way c demand 0 ∷ build n (λ i. flow_at way c demand (suc i)) ++ (column ++ after)) (same_build n flow_never_cut)

  pub state_never_cut : updated (cells_of c) c.state demand cut_sheet ≡ state_after way c demand
  unfolding state_after
  state_never_cut = ap (updated (cells_of c) c.state demand) sheet_never_cut
