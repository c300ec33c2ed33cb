-- The sheet as the walk up the road fills it, from the last cell to the entry: the cells from one on have sent, and past that one the on-ramps
-- too. Assumes nothing.
use Prim.Native.Nat.{ℕ, suc, ◌-◌, ◌≤◌, ◌<◌}
use mathlib.Core.Path.{◌≡◌, refl, ap, ◌∙◌}
use mathlib.Core.List.{List}
use native.Mathlib.Omega.{arith}
use lib.ListN.{length}
use Rattle.layout.specs.Sheet.{sheet_length, sheet_from}
use Rattle.layout.specs.Corridor.{Corridor, cells_of}
use Rattle.layout.proofs.Sheets.{Sheeting, nothing_stored, flow_stored, off_stored, on_stored, mode_stored, is_sheet}
use Rattle.period.specs.Sharing.{Sharing}
use Rattle.period.specs.Period.{flow_at, off_flow_at, on_flow_at, mode_at, sheet_of}
use Rattle.period.specs.Private.{node_passed, cell_sent, cell_passed, last_passed}

module _ (way : Sharing) (c : Corridor) (demand : List ℕ) where
  -- of n cells, by how far each column is stored
  abbrev Stored : ℕ → ℕ → ℕ → ℕ → ℕ → List ℕ → Type 0
  Stored n = Sheeting n (flow_at way c demand) (off_flow_at way c demand) (on_flow_at way c demand) (mode_at way c demand)

  pub record FlowsFrom (n : ℕ) (sheet : List ℕ) (i : ℕ) : Type 0 where
    pub all : n ≡ cells_of c
    pub inside : i < n
    pub stored : Stored n (suc i) i (suc i) i sheet

  module _ (n : ℕ) (sheet : List ℕ) where
    node_fills : (p : ℕ) {s m : ℕ} → p < n → Stored n (suc p) s (suc p) m sheet → Stored n p s p m (node_passed way c demand n sheet p)
    unfolding node_passed
    node_fills p h so =
        on_stored n _ _ _ _ (flow_stored n _ _ _ _ so (omega arith) refl) h refl

    cell_fills : (i : ℕ) → suc i < n → Stored n (suc (suc i)) (suc i) (suc (suc i)) (suc i) sheet → Stored n (suc i) i (suc i) i (cell_passed way c demand n sheet i)
    unfolding cell_passed cell_sent
    cell_fills i h so =
        off_stored n _ _ _ _ (mode_stored n _ _ _ _ (node_fills (suc i) h so) (omega arith) refl) (omega arith) refl

    last_fills : (i : ℕ) → suc i ≡ n → Stored n (suc n) n n n sheet → Stored n (suc i) i (suc i) i (last_passed way c demand n sheet i)
    unfolding last_passed
    last_fills i last so =
        let none : Stored n (suc (suc i)) (suc i) (suc i) (suc i) sheet = rw last so in
        off_stored n _ _ _ _ (mode_stored n _ _ _ _ (flow_stored n _ _ _ _ none (omega arith) refl) (omega arith) refl) (omega arith) refl

  pub begins : {n i : ℕ} (sheet : List ℕ) {sheet' : List ℕ} → n ≡ cells_of c → suc i ≡ n → length sheet ≡ sheet_length (cells_of c) → sheet' ≡ last_passed way c demand n sheet i → FlowsFrom n sheet' i
  begins {n} {i} sheet all last len passed =
      record {
        all = all;
        inside = omega arith;
        stored = rw passed (last_fills n sheet i last (nothing_stored n _ _ _ _ (rw all len)));
      }

  pub goes_on : {n i : ℕ} {sheet sheet' : List ℕ} → FlowsFrom n sheet i → 0 < i → sheet' ≡ cell_passed way c demand n sheet (i - 1) → FlowsFrom n sheet' (i - 1)
  goes_on {n} {i} {sheet} so some passed =
      let below : suc (i - 1) ≡ i = omega arith in
      record {
        all = so.all;
        inside = omega (arith, so.inside);
        stored = rw passed (cell_fills n sheet (i - 1) (omega (arith, so.inside)) (rw below so.stored));
      }

  -- with the entry the sheet is whole
  pub ends : {n i : ℕ} {sheet sheet' : List ℕ} → FlowsFrom n sheet i → i ≤ 0 → sheet' ≡ node_passed way c demand n sheet 0 → sheet' ≡ sheet_of way c demand
  unfolding sheet_of
  ends {n} {i} {sheet} so first passed =
      let at : i ≡ 0 = omega arith in
      passed
      ∙ is_sheet n _ _ _ _ (node_fills n sheet 0 (omega (arith, so.inside)) (rw at at so.stored))
      ∙ ap (λ m. sheet_from m (flow_at way c demand) (off_flow_at way c demand) (on_flow_at way c demand) (mode_at way c demand)) so.all
