use Prim.Native.Nat.{◌-◌}
use mathlib.Core.Path.{◌≡◌, sym, ◌∙◌}
use mathlib.Core.Bool.{true, false}
use native.Mathlib.Omega.{arith}
use lib.Dec.{leb}
use lib.ListN.{length}
use Rattle.layout.specs.Layout.{cells}
use Rattle.period.proofs.Fair.{asymmetric_is_fair}
use Rattle.program_steps.specs.Demand.{lines_room}
use Rattle.program_steps.proofs.Turning.{goes_onward}
use Rattle.program_steps.proofs.Following.{full, used_up, part_left, over_left, period_followed}
use Rattle.program_steps.proofs.demand.follow_run.Goals as goal

pub returns-then-not-has_room : goal.returns-then-not-has_room
returns-then-not-has_room c =
    let none : leb (lines_room (cells c.args.table.now)) (length c.args.out.now - c.loop-from.at) ≡ false =
    rw (c.cells-n.ensures, c.loop-from.invariant.4) at (sym c.has_room.ensures ∙ c.if-not-has_room.true)
    in
    full _ _ _ _ _ _ _ _ c.loop-from.invariant.0 none c.loop-from-test.true

pub returns-in-Part : goal.returns-in-Part
returns-in-Part c =
    let has : leb (lines_room (cells c.args.table.now)) (length c.args.out.now - c.loop-from.at) ≡ true =
    rw (c.cells-n.ensures, c.loop-from.invariant.4) at (sym c.has_room.ensures ∙ c.if-not-has_room.false)
    in
    let turn = c.turn in
    part_left _ _ _ _ _ _ _ _ c.loop-from.invariant.0 has turn.ensures.reads turn.auto.row turn.ensures.does c.in-Part.is

pub loop-from-smaller : goal.loop-from-smaller
loop-from-smaller c = omega (arith, goes_onward _ _ _ _ _ _ c.turn.ensures.does.answered c.in-Period.is)

pub loop-from-preserved : goal.loop-from-preserved
loop-from-preserved c =
    let has : leb (lines_room (cells c.args.table.now)) (length c.args.out.now - c.loop-from.at) ≡ true =
    rw (c.cells-n.ensures, c.loop-from.invariant.4) at (sym c.has_room.ensures ∙ c.if-not-has_room.false)
    in
    let turn = c.turn in
    let onward = goes_onward _ _ _ _ _ _ turn.ensures.does.answered c.in-Period.is in
    let followed = period_followed _ _ _ _ _ _ _ _ c.loop-from.invariant.0 has turn.ensures.reads turn.auto.row turn.ensures.does asymmetric_is_fair c.in-Period.is onward in
    (rw (c.begin-scan.ensures, c.counted-k.ensures) followed, turn.auto.state ∙ c.loop-from.invariant.1, turn.auto.row ∙ c.loop-from.invariant.2, turn.auto.sheet ∙ c.loop-from.invariant.3, turn.auto.out ∙ c.loop-from.invariant.4)

pub returns-in-Over : goal.returns-in-Over
returns-in-Over c =
    let has : leb (lines_room (cells c.args.table.now)) (length c.args.out.now - c.loop-from.at) ≡ true =
    rw (c.cells-n.ensures, c.loop-from.invariant.4) at (sym c.has_room.ensures ∙ c.if-not-has_room.false)
    in
    let turn = c.turn in
    over_left _ _ _ _ _ _ _ _ c.loop-from.invariant.0 has turn.ensures.reads turn.auto.row turn.ensures.does c.in-Over.is

pub returns : goal.returns
returns c = used_up _ _ _ _ _ _ _ _ c.loop-from.invariant.0 c.loop-from-test.false
