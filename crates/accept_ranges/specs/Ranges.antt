-- Rules, "Units and the cell row" and "Refusal numbers" 2, 3 and 5 to 7: the ranges of the numbers of one cell.
use Rattle.std.specs.Prelude.{ℕ, ◌+◌, Bool, ◌&&◌, leb, eqb}
use Rattle.whole.specs.Share.{ONE}
use Rattle.whole.specs.Search.{pick, within}
use Rattle.layout.specs.declared.Row.{Row}
use Rattle.layout.specs.declared.Cell.{Cell}

-- a bound that holds where there is a ramp; with ramp number 0 it is 0
abbrev pub with_ramp : ℕ → ℕ → ℕ
with_ramp ramp bound = pick (eqb ramp 0) 0 bound

-- 2: each number of a row is in its column's range
unfoldable pub row_in_range : Row → Bool
row_in_range r =
    within 1 ONE r.v
    && within 1 ONE r.w
    && within 1 1_000_000 r.capacity
    && within 1 4_000_000 r.jam
    && within 0 65_535 r.on
    && within (with_ramp r.on 1) (with_ramp r.on 65_535) r.x
    && within (with_ramp r.on 1) (with_ramp r.on 1_000_000) r.c
    && within 0 65_535 r.off
    && within 0 (with_ramp r.off 65_535) r.b
    && within 1 r.capacity r.dropped

-- 3: w + x is at most ONE
abbrev pub room_shared : Row → Bool
room_shared r = leb (r.w + r.x) ONE

-- 5: a queue is at most 1,000,000,000, and 0 where there is no on-ramp; a count is at most J; a mode is 0 or 1
abbrev pub queue_limit : ℕ
queue_limit = 1_000_000_000

abbrev pub state_fits : Row → Cell → Bool
state_fits r cell = leb cell.count r.jam && leb cell.queue (with_ramp r.on queue_limit) && leb cell.mode 1

-- 6: a demand is at most 1,000,000; d is 0 without an on-ramp, o is 0 unless an off-ramp has b = 0
abbrev pub demand_limit : ℕ
demand_limit = 1_000_000

abbrev pub given_off : Row → ℕ
given_off r = pick (eqb r.b 0) (with_ramp r.off demand_limit) 0

abbrev pub demand_fits : Row → ℕ → ℕ → Bool
demand_fits r d o = leb d (with_ramp r.on demand_limit) && leb o (given_off r)

-- 7: queue plus demand is at most 1,000,000,000
abbrev pub queue_holds : ℕ → ℕ → Bool
queue_holds queue demand = leb (queue + demand) queue_limit
