use mathlib.Core.Path.{ap, ap₂, ◌∙◌}
use Prim.Native.Nat.{◌-◌, min}
use Rattle.whole.specs.Share.{ONE, share}
use Rattle.period.proofs.OffRamps.{none_sends, given_sends, split_sends}
use Rattle.period.proofs.cell.would_send.Goals as goal

pub returns-then-row-eq0 : goal.returns-then-row-eq0
returns-then-row-eq0 c = c.sending-d.ensures ∙ none_sends _ _ _ c.if-row-eq0.true

pub returns-then-row-eq0-2 : goal.returns-then-row-eq0-2
returns-then-row-eq0-2 c =
    let d = c.sending-d.ensures in
    ap₂ (λ a b. a - b) d (c.least.ensures ∙ ap (min _) d)
    ∙ given_sends _ _ _ c.if-row-eq0.false c.if-row-eq0-2.true

pub returns : goal.returns
returns c =
    c.split_stays.ensures
    ∙ ap (λ d. share d (ONE - c.args.row.b)) c.sending-d.ensures
    ∙ split_sends _ _ _ c.if-row-eq0.false c.if-row-eq0-2.false
