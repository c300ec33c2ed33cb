-- Rules, "One period", steps 1, 2, 4 and 7: what one cell would send, has room for and lets off, and its mode, from its row, its
-- count n at the period's start and its off-ramp demand o. Divisions round down.
use Rattle.std.specs.Prelude.{ℕ, ◌-◌, ◌*◌, ◌/◌, min, Bool, ◌&&◌, eqb, ltb}
use Rattle.whole.specs.Share.{ONE, share}
use Rattle.whole.specs.Search.{pick}
use Rattle.layout.specs.declared.Row.{Row}

-- 1. D = v·n / ONE
abbrev pub D : Row → ℕ → ℕ
D r n = share r.v n

-- 1. R = w·(J − n) / ONE
abbrev pub R : Row → ℕ → ℕ
R r n = share r.w (r.jam - n)

-- an off-ramp's kind decides: none, a split b, or a given flow (b = 0)
abbrev pub by_off_ramp : Row → ℕ → ℕ → ℕ → ℕ
by_off_ramp r none split given = pick (eqb r.off 0) none (pick (eqb r.b 0) given split)

-- 2. M: D without off-ramp; D·(ONE − b) / ONE with a split; D − min(o, D) with a given flow
unfoldable pub M : Row → ℕ → ℕ → ℕ
M r n o = by_off_ramp r (D r n) (share (D r n) (ONE - r.b)) (D r n - min o (D r n))

-- 4. s: none 0; split f·b / (ONE − b); given min(o, D)
unfoldable pub off_flow : Row → ℕ → ℕ → ℕ → ℕ
off_flow r n o f = by_off_ramp r 0 (f * r.b / (ONE - r.b)) (min o (D r n))

-- 7. 0, free, exactly when M < F and the node downstream is clear; else 1
abbrev pub mode_of : ℕ → ℕ → Bool → ℕ
mode_of m capacity clear = pick (ltb m capacity && clear) 0 1
