-- What the tests of a cell's numbers say when they pass. Assumes nothing.
use Prim.Native.Nat.{ℕ, ◌≤◌, zero-le}
use mathlib.Core.Path.{◌≡◌}
use mathlib.Core.Bool.{Bool, true, false, ◌&&◌}
use borrow.Author.Tests.{leb-true, le-leb}
use native.Mathlib.Omega.{arith}
use lib.Dec.{leb, eqb}
use Rattle.whole.specs.Share.{ONE}
use Rattle.whole.specs.Search.{pick, within}
use Rattle.whole.proofs.Tests.{both_hold}
use Rattle.layout.specs.declared.Row.{Row}
use Rattle.layout.specs.declared.Cell.{Cell}
use Rattle.accept_ranges.specs.Ranges.{row_in_range, with_ramp, queue_limit, state_fits}

pub record Between (low high x : ℕ) : Type 0 where
  pub least : low ≤ x
  pub most : x ≤ high

pub between : (low high x : ℕ) → within low high x ≡ true → Between low high x
between low high x e = let both = both_hold (leb low x) (leb x high) e in record { least = leb-true low x both.0; most = leb-true x high both.1 }

-- a row in range, column by column
pub record InRange (r : Row) : Type 0 where
  pub v : Between 1 ONE r.v
  pub w : Between 1 ONE r.w
  pub capacity : Between 1 1_000_000 r.capacity
  pub jam : Between 1 4_000_000 r.jam
  pub on : Between 0 65_535 r.on
  pub x : Between (with_ramp r.on 1) (with_ramp r.on 65_535) r.x
  pub c : Between (with_ramp r.on 1) (with_ramp r.on 1_000_000) r.c
  pub off : Between 0 65_535 r.off
  pub b : Between 0 (with_ramp r.off 65_535) r.b
  pub dropped : Between 1 r.capacity r.dropped

pub in_range : (r : Row) → row_in_range r ≡ true → InRange r
unfolding row_in_range
in_range r e =
    let dropped = both_hold _ _ e in
    let b = both_hold _ _ dropped.0 in
    let off = both_hold _ _ b.0 in
    let c = both_hold _ _ off.0 in
    let x = both_hold _ _ c.0 in
    let on = both_hold _ _ x.0 in
    let jam = both_hold _ _ on.0 in
    let capacity = both_hold _ _ jam.0 in
    let w = both_hold _ _ capacity.0 in
    record {
      v = between _ _ _ w.0;
      w = between _ _ _ w.1;
      capacity = between _ _ _ capacity.1;
      jam = between _ _ _ jam.1;
      on = between _ _ _ on.1;
      x = between _ _ _ x.1;
      c = between _ _ _ c.1;
      off = between _ _ _ off.1;
      b = between _ _ _ b.1;
      dropped = between _ _ _ dropped.1;
    }

-- a bound that holds where there is a ramp is at most that bound
pub with_ramp_at_most : (ramp bound : ℕ) → with_ramp ramp bound ≤ bound
with_ramp_at_most ramp bound = by (eqb ramp 0)
  where
    by : (none : Bool) → pick none 0 bound ≤ bound
    by true = zero-le
    by false = omega arith

-- a cell of a state in range, and back
pub record CellFits (r : Row) (cell : Cell) : Type 0 where
  pub count : cell.count ≤ r.jam
  pub queue : cell.queue ≤ with_ramp r.on queue_limit
  pub mode : cell.mode ≤ 1

pub cell_fits_lem : (r : Row) (cell : Cell) → state_fits r cell ≡ true → CellFits r cell
cell_fits_lem r cell e =
    let mode = both_hold (leb cell.count r.jam && leb cell.queue (with_ramp r.on queue_limit)) _ e in
    let queue = both_hold (leb cell.count r.jam) _ mode.0 in
    record { count = leb-true _ _ queue.0; queue = leb-true _ _ queue.1; mode = leb-true _ _ mode.1 }

pub fits_cell : (r : Row) (cell : Cell) → CellFits r cell → state_fits r cell ≡ true
fits_cell r cell fits =
    λ j. le-leb cell.count r.jam fits.count j && le-leb cell.queue (with_ramp r.on queue_limit) fits.queue j && le-leb cell.mode 1 fits.mode j
