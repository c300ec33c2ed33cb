use Rattle.std.proofs.Common.{◌≡◌, ℕ, ◌+◌, ◌*◌, ◌<◌, List, refl, sym, arith}
use Rattle.whole.proofs.Search.{none_fails}
use Rattle.refusals.proofs.Answers.{passes}
use Rattle.layout.specs.declared.Row.{Row}
use Rattle.layout.specs.Layout.{row_at, ramp_at}
use Rattle.accept_tables.specs.Tables.{ramps_once}
use Rattle.accept_tables.proofs.Ramps.{marks_down, one_more, once_again, on_ramp_at, off_ramp_at}
use Rattle.accept_tables.proofs.checks.ramps_once.Goals as goal
use Rattle.accept_tables.proofs.checks.ramps_once.Goals.{then-ramp_again-via-then-ramp_again, then-ramp_again-via-else-ramp_again+then-ramp_again-2}

-- the ramps of a row that was read have marks
module _ (road : List ℕ) (i : ℕ) {row : Row} (read : row ≡ row_at road i) where
  on_below : ramp_at road (2 * i) < 65_536 → row.on < 65_536
  on_below h = omega (arith, on_ramp_at road i read)

  off_below : ramp_at road (2 * i + 1) < 65_536 → row.off < 65_536
  off_below h = omega (arith, off_ramp_at road i read)

pub loop-i-init : goal.loop-i-init
loop-i-init c = record { passed = λ k h. absurd (omega arith); marked = marks_down _ }

pub ramp_again-requires : goal.ramp_again-requires
ramp_again-requires c = on_below c.args.table.now c.loop-i.i c.row_at-row.ensures (c.requires (2 * c.loop-i.i) (omega arith))

pub ramp_again-requires-else-ramp_again : goal.ramp_again-requires-else-ramp_again
ramp_again-requires-else-ramp_again c = off_below c.args.table.now c.loop-i.i c.row_at-row.ensures (c.requires (2 * c.loop-i.i + 1) (omega arith))

pub returns-then-ramp_again : goal.returns-then-ramp_again
returns-then-ramp_again c =
    let table = c.args.table.now in
    let i = c.loop-i.i in
    let on = on_ramp_at table i c.row_at-row.ensures in
    elim c.then-ramp_again.branch [
      | then-ramp_again-via-then-ramp_again w ↦ once_again c.loop-i.invariant on c.ramp_again.ensures.value w.if-ramp_again.true (omega arith) (omega arith)
      | then-ramp_again-via-else-ramp_again+then-ramp_again-2 w ↦
          let below = on_below table i c.row_at-row.ensures (c.requires (2 * i) (omega arith)) in
          let past = one_more c.loop-i.invariant on below c.ramp_again.ensures.value c.ramp_again.ensures.marks_after w.if-ramp_again.false in
          once_again past (off_ramp_at table i c.row_at-row.ensures) w.ramp_again-else-ramp_again.ensures.value w.if-ramp_again-2.true (omega arith) (omega arith)
    ]

pub loop-i-preserved : goal.loop-i-preserved
loop-i-preserved c =
    let table = c.args.table.now in
    let i = c.loop-i.i in
    let on-low = on_below table i c.row_at-row.ensures (c.requires (2 * i) (omega arith)) in
    let off-low = off_below table i c.row_at-row.ensures (c.requires (2 * i + 1) (omega arith)) in
    let past = one_more c.loop-i.invariant (on_ramp_at table i c.row_at-row.ensures) on-low c.ramp_again.ensures.value c.ramp_again.ensures.marks_after c.if-ramp_again.false in
    let twice : 2 * (i + 1) ≡ 2 * i + 1 + 1 = omega arith in
    rw twice
    (one_more past (off_ramp_at table i c.row_at-row.ensures) off-low c.ramp_again-else-ramp_again.ensures.value c.ramp_again-else-ramp_again.ensures.marks_after c.if-ramp_again-2.false)

pub returns : goal.returns
returns c =
    let inv = c.loop-i.invariant in
    passes (ramps_once c.args.table.now) (sym (none_fails _ _ (λ k h. inv.passed k (omega arith)))) (omega arith) refl
