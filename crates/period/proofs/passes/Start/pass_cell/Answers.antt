use Prim.Native.Nat.{◌-◌, min}
use mathlib.Core.Path.{refl, ap, ap₂, ◌∙◌}
use native.Mathlib.Omega.{arith}
use Rattle.whole.specs.Share.{ONE, share}
use Rattle.whole.proofs.Shares.{share_within}
use Rattle.period.specs.Sharing.{asymmetric}
use Rattle.period.proofs.Fair.{asymmetric_is_fair}
use Rattle.period.proofs.OffRamps.{none_sends, given_sends, split_sends, none_leaves, given_leaves, split_leaves_lem, split_fits}
use Rattle.period.proofs.Nodes.{read, off_stored, v_fits, b_fits, sent_is, is_of_sent}
use Rattle.period.proofs.passes.Start.pass_cell.Goals as goal

pub send-requires-clause-m_value : goal.send-requires-clause-m_value
send-requires-clause-m_value c =
    let here = read c.args.self.now (omega (arith, c.requires.inside)) c.row_at-row.ensures c.count_at.ensures in
    let m = sent_is here refl (c.sending-d.ensures ∙ none_sends _ _ _ c.if-row-eq0.true) in
    m

pub returns-then-row-eq0 : goal.returns-then-row-eq0
returns-then-row-eq0 c =
    let here = read c.args.self.now (omega (arith, c.requires.inside)) c.row_at-row.ensures c.count_at.ensures in
    off_stored here asymmetric _ refl c.send.ensures.sends (none_leaves _ _ _ _ c.if-row-eq0.true) c.send.ensures.stores c.put_off_flow.ensures

pub send-requires-then-row-eq0-2-clause-m_value : goal.send-requires-then-row-eq0-2-clause-m_value
send-requires-then-row-eq0-2-clause-m_value c =
    let here = read c.args.self.now (omega (arith, c.requires.inside)) c.row_at-row.ensures c.count_at.ensures in
    let o = c.off_demand_at in
    let d = c.sending-d.ensures in
    let m = sent_is here o.ensures (ap₂ (λ a b. a - b) d (c.least-s.ensures ∙ ap (min o.result) d) ∙ given_sends _ _ _ c.if-row-eq0.false c.if-row-eq0-2.true) in
    m

pub returns-then-row-eq0-2 : goal.returns-then-row-eq0-2
returns-then-row-eq0-2 c =
    let here = read c.args.self.now (omega (arith, c.requires.inside)) c.row_at-row.ensures c.count_at.ensures in
    let o = c.off_demand_at in
    let leaves = c.least-s.ensures ∙ ap (min o.result) c.sending-d.ensures ∙ given_leaves _ _ _ _ c.if-row-eq0.false c.if-row-eq0-2.true in
    off_stored here asymmetric _ o.ensures c.send-then-row-eq0-2.ensures.sends leaves c.send-then-row-eq0-2.ensures.stores c.put_off_flow-then-row-eq0-2.ensures

pub send-f-requires-clause-m_value : goal.send-f-requires-clause-m_value
send-f-requires-clause-m_value c =
    let here = read c.args.self.now (omega (arith, c.requires.inside)) c.row_at-row.ensures c.count_at.ensures in
    let m = sent_is here refl (c.split_stays.ensures ∙ ap (λ d. share d (ONE - c.row_at-row.result.b)) c.sending-d.ensures ∙ split_sends _ _ _ c.if-row-eq0.false c.if-row-eq0-2.false) in
    m

pub split_leaves-requires : goal.split_leaves-requires
split_leaves-requires c =
    let here = read c.args.self.now (omega (arith, c.requires.inside)) c.row_at-row.ensures c.count_at.ensures in
    let sent = is_of_sent here asymmetric asymmetric_is_fair refl c.send-f.ensures.sends in
    (b_fits here, omega (arith, split_fits _ _ _ _ (v_fits here) (b_fits here) c.if-row-eq0.false c.if-row-eq0-2.false sent))

pub returns : goal.returns
returns c =
    let here = read c.args.self.now (omega (arith, c.requires.inside)) c.row_at-row.ensures c.count_at.ensures in
    let leaves = c.split_leaves.ensures ∙ split_leaves_lem _ _ _ _ c.if-row-eq0.false c.if-row-eq0-2.false in
    off_stored here asymmetric _ refl c.send-f.ensures.sends leaves c.send-f.ensures.stores c.put_off_flow-2.ensures

pub split_stays-requires : goal.split_stays-requires
split_stays-requires c =
    let here = read c.args.self.now (omega (arith, c.requires.inside)) c.row_at-row.ensures c.count_at.ensures in
    (b_fits here, omega (arith, c.sending-d.ensures, share_within c.row_at-row.result.v c.count_at.result (v_fits here)))
