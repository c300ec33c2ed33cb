use mathlib.Core.Path.{◌≡◌, ap₂, sym, ◌∙◌}
use Prim.Native.Nat.{suc, min}
use native.Mathlib.Numerals.{add-one}
use native.Mathlib.Omega.{arith}
use Rattle.period.specs.Sharing.{asymmetric}
use Rattle.period.specs.Period.{sent_at, flow_at}
use Rattle.period.specs.Starts.{corridor}
use Rattle.period.proofs.Nodes.{read, v_fits, b_fits, last_flow_is, last_stored, sent_is, off_flow_is}
use Rattle.period.proofs.passes.Start.pass_last.Goals as goal

pub returns : goal.returns
returns c =
    let start = c.args.self.now in
    let here = read start (omega (arith, c.requires.last)) c.row_at-row.ensures c.count_at-count.ensures in
    let sends : c.would_send-m.result ≡ sent_at (corridor start) start.demand.now c.args.i =
    sent_is here c.off_demand_at-o.ensures c.would_send-m.ensures in
    -- the last cell's offer passes whole
    let flows : c.least-f.result ≡ flow_at asymmetric (corridor start) start.demand.now (suc c.args.i) =
    c.least-f.ensures ∙ ap₂ min sends c.capacity_now-capacity.ensures ∙ sym (last_flow_is asymmetric _ _ _ (omega (arith, start.all, c.requires.last))) in
    let s = off_flow_is here asymmetric c.off_demand_at-o.ensures flows c.off_flow.ensures in
    last_stored asymmetric _ _ _ _ (omega (arith, start.all, c.requires.last)) sends c.capacity_now-capacity.ensures flows c.mode.ensures s (rw add-one at c.put_flow.ensures) c.put_mode.ensures c.put_off_flow.ensures

pub would_send-m-requires : goal.would_send-m-requires
would_send-m-requires c =
    let here = read c.args.self.now (omega (arith, c.requires.last)) c.row_at-row.ensures c.count_at-count.ensures in
    (v_fits here, b_fits here)

pub off_flow-requires : goal.off_flow-requires
off_flow-requires c =
    let here = read c.args.self.now (omega (arith, c.requires.last)) c.row_at-row.ensures c.count_at-count.ensures in
    (v_fits here, b_fits here, omega (arith, c.least-f.ensures, c.would_send-m.ensures))
