-- What passes at each node, and what each position sends there. Assumes nothing.
use Prim.Native.Nat.{ℕ, suc, ◌≤◌, ◌<◌, min}
use mathlib.Core.Path.{◌≡◌, refl, sym, ◌∙◌}
use mathlib.Core.Bool.{Bool, true, false, ◌&&◌}
use mathlib.Core.List.{List}
use native.Mathlib.Omega.{arith}
use borrow.Author.Tests.{lt-ltb, le-ltb, ltb-true, ltb-false}
use lib.Dec.{ltb}
use Rattle.whole.specs.Search.{pick}
use Rattle.layout.specs.declared.Row.{Row}
use Rattle.layout.specs.Layout.{off_demand_at}
use Rattle.layout.specs.Sheet.{with_flow, with_off_flow, with_on_flow, with_mode}
use Rattle.layout.specs.Corridor.{Corridor, cells_of, row_of, count_of}
use Rattle.period.specs.declared.Passed.{Passed}
use Rattle.period.specs.Cell.{M, off_flow, mode_of}
use Rattle.period.specs.Sharing.{Sharing}
use Rattle.period.specs.Fair.{Fair}
use Rattle.period.specs.Period.{capacity_now, sent_at, offer_at, ramp_offer_at, node_at, flow_at, off_flow_at, mode_at}
use Rattle.period.specs.declared.passes.Start.{Start}
use Rattle.period.specs.Starts.{corridor}
use Rattle.period.proofs.Facts.{works}
use Rattle.period.specs.Private.{node_passed, cell_sent, cell_passed, last_passed, Workable}

module _ (way : Sharing) (c : Corridor) (demand : List ℕ) where
  -- the flow into a cell is what passes at its node; past the last cell the offer passes whole
  pub flow_in_is : (i : ℕ) → i < cells_of c → flow_at way c demand i ≡ (node_at way c demand i).main
  unfolding flow_at
  flow_in_is i h = rw (lt-ltb i (cells_of c) h)

  pub last_flow_is : (p : ℕ) → cells_of c ≤ p → flow_at way c demand p ≡ offer_at c demand p
  unfolding flow_at
  last_flow_is p h = rw (le-ltb p (cells_of c) h)

  -- the mode is by the node downstream; past the last cell all is clear
  pub mode_is : (i : ℕ) → suc i < cells_of c → mode_at way c demand i ≡ mode_of (sent_at c demand i) (capacity_now c i) (node_at way c demand (suc i)).clear
  unfolding mode_at
  mode_is i h = rw (lt-ltb (suc i) (cells_of c) h)

  pub last_mode_is : (i : ℕ) → cells_of c ≤ suc i → mode_at way c demand i ≡ mode_of (sent_at c demand i) (capacity_now c i) true
  unfolding mode_at
  last_mode_is i h = rw (le-ltb (suc i) (cells_of c) h)

  -- a mode is 0 or 1
  pub mode_at_most_one : (i : ℕ) → mode_at way c demand i ≤ 1
  unfolding mode_at
  mode_at_most_one i = by (ltb (sent_at c demand i) (capacity_now c i)) _
    where
      by : (below clear : Bool) → pick (below && clear) 0 1 ≤ 1
      by true true = omega arith
      by true false = omega arith
      by false clear = omega arith

  -- what passes, by what is read of the receiving cell and offered to it
  pub node_is : (p : ℕ) {n a e : ℕ} {row : Row} {passed : Passed} → row ≡ row_of c p → n ≡ count_of c p → a ≡ offer_at c demand p → e ≡ ramp_offer_at c demand p → passed ≡ way row n a e → passed ≡ node_at way c demand p
  unfolding node_at
  node_is p row n a e passed = passed ∙ rw (row, n, a, e)

  module _ (n : ℕ) (sheet : List ℕ) where
    -- what passes at a node is stored
    pub node_stored : {p : ℕ} {before after : List ℕ} {passed : Passed} → p < cells_of c → passed ≡ node_at way c demand p → before ≡ with_flow sheet p passed.main → after ≡ with_on_flow n before p passed.ramp → after ≡ node_passed way c demand n sheet p
    unfolding node_passed
    node_stored {p} h is before after = after ∙ rw (before, is, flow_in_is p h)

    -- and then the mode of the cell upstream
    pub mode_stored : {i m capacity mode : ℕ} {before after : List ℕ} {passed : Passed} → suc i < cells_of c → m ≡ sent_at c demand i → capacity ≡ capacity_now c i → passed ≡ node_at way c demand (suc i) → before ≡ node_passed way c demand n sheet (suc i) → mode ≡ mode_of m capacity passed.clear → after ≡ with_mode n before i mode → after ≡ cell_sent way c demand n sheet i
    unfolding cell_sent
    mode_stored {i} h m capacity is before mode after = after ∙ rw (mode, before, is, m, capacity, mode_is i h)

    -- what the last cell sends
    pub last_stored : {i m capacity mode s : ℕ} {flowed moded after : List ℕ} {f : ℕ} → cells_of c ≤ suc i → m ≡ sent_at c demand i → capacity ≡ capacity_now c i → f ≡ flow_at way c demand (suc i) → mode ≡ mode_of m capacity true → s ≡ off_flow_at way c demand i → flowed ≡ with_flow sheet (suc i) f → moded ≡ with_mode n flowed i mode → after ≡ with_off_flow n moded i s → after ≡ last_passed way c demand n sheet i
    unfolding last_passed
    last_stored {i} h m capacity f mode s flowed moded after =
        after ∙ rw (moded, flowed, s, mode, f, m, capacity, last_mode_is i h)

module _ (way : Sharing) (fair : Fair way) (c : Corridor) (demand : List ℕ) where
  -- no position sends more than it offers
  pub flow_of_offer : (p : ℕ) → flow_at way c demand p ≤ offer_at c demand p
  unfolding flow_at node_at
  flow_of_offer p = by (ltb p (cells_of c)) _ _
    where
      by : (inside : Bool) (n e : ℕ) → pick inside (way (row_of c p) n (offer_at c demand p) e).main (offer_at c demand p) ≤ offer_at c demand p
      by true n e = fair.mainline_of_offer _ _ _ _
      by false n e = omega arith

  -- f is at most M
  pub flow_of_sent : (i : ℕ) → flow_at way c demand (suc i) ≤ sent_at c demand i
  flow_of_sent i = omega (arith, flow_of_offer (suc i))

-- where M is below F, whether it is below the least of F and R is whether it is below R
least_of_both : (m capacity room : ℕ) → m < capacity → ltb m (min capacity room) ≡ ltb m room
least_of_both m capacity room h = by (ltb m room) refl
  where
    by : (free : Bool) → ltb m room ≡ free → ltb m (min capacity room) ≡ ltb m room
    by true f = let k = ltb-true m room f in lt-ltb m (min capacity room) (omega arith) ∙ sym f
    by false f = let k = ltb-false m room f in le-ltb m (min capacity room) (omega arith) ∙ sym f

-- M < F and a < R, with a the least of M and F, is M < min(F, R): Rules, "One period", step 7
pub free_is : (m capacity room : ℕ) → ltb m (min capacity room) ≡ (ltb m capacity && ltb (min m capacity) room)
free_is m capacity room = by (ltb m capacity) refl
  where
    by : (below : Bool) → ltb m capacity ≡ below → ltb m (min capacity room) ≡ (below && ltb (min m capacity) room)
    by true e =
        let h = ltb-true m capacity e in
        let same : min m capacity ≡ m = omega arith in
        rw same (least_of_both m capacity room h)
    by false e = let h = ltb-false m capacity e in le-ltb m (min capacity room) (omega arith)

-- what is read of a cell
pub record CellRead (n : ℕ) (c : Corridor) (demand : List ℕ) (i : ℕ) (row : Row) (count : ℕ) : Type 0 where
  pub known : Workable n c demand i
  pub is_row : row ≡ row_of c i
  pub is_count : count ≡ count_of c i

-- what is read of a cell where a period starts
pub read : (start : Start) {i count : ℕ} {row : Row} → i < start.n → row ≡ row_of (corridor start) i → count ≡ count_of (corridor start) i → CellRead start.n (corridor start) start.demand.now i row count
read start inside row count = record { known = works start inside; is_row = row; is_count = count }

-- serves for the cell
module _ {n i count : ℕ} {c : Corridor} {demand : List ℕ} {row : Row} (here : CellRead n c demand i row count) where
  pub v_fits : row.v ≤ 65_536
  v_fits = rw here.is_row here.known.v

  pub b_fits : row.b < 65_536
  b_fits = rw here.is_row here.known.b

  pub count_fits : count ≤ row.jam
  count_fits = rw (here.is_row, here.is_count) here.known.count

  pub sent_is : {o m : ℕ} → o ≡ off_demand_at n demand i → m ≡ M row count o → m ≡ sent_at c demand i
  sent_is o m = m ∙ rw (here.is_row, here.is_count, o, here.known.all)

  pub off_flow_is : (way : Sharing) {o f s : ℕ} → o ≡ off_demand_at n demand i → f ≡ flow_at way c demand (suc i) → s ≡ off_flow row count o f → s ≡ off_flow_at way c demand i
  unfolding off_flow_at
  off_flow_is way o f s = s ∙ rw (here.is_row, here.is_count, o, f, here.known.all)

  -- f is at most M
  pub is_of_sent : (way : Sharing) {o f : ℕ} → Fair way → o ≡ off_demand_at n demand i → f ≡ flow_at way c demand (suc i) → f ≤ M row count o
  is_of_sent way fair o f = rw (f, here.is_row, here.is_count, o, here.known.all) (flow_of_sent way fair c demand i)

  -- what leaves by its off-ramp is stored
  pub off_stored : (way : Sharing) (sheet : List ℕ) {o f s : ℕ} {before after : List ℕ} → o ≡ off_demand_at n demand i
      → f ≡ flow_at way c demand (suc i) → s ≡ off_flow row count o f → before ≡ cell_sent way c demand n sheet i
      → after ≡ with_off_flow n before i s → after ≡ cell_passed way c demand n sheet i
  unfolding cell_passed
  off_stored way sheet o f s before after = after ∙ rw (off_flow_is way o f s, before)
