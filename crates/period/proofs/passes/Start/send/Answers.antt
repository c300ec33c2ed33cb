use mathlib.Core.Path.{ap, sym, ◌∙◌}
use Prim.Native.Nat.{suc, ◌<◌}
use native.Mathlib.Numerals.{add-one}
use native.Mathlib.Omega.{arith}
use Rattle.layout.specs.Corridor.{cells_of}
use Rattle.period.specs.Sharing.{asymmetric}
use Rattle.period.specs.Starts.{corridor}
use Rattle.period.proofs.Nodes.{flow_in_is, mode_stored}
use Rattle.period.proofs.passes.Start.send.Goals as goal

pub returns : goal.returns
returns c =
    let below : suc c.args.i < cells_of (corridor c.args.self.now) = omega (arith, c.args.self.now.all, c.requires.inside) in
    let told = rw add-one at c.pass_node-passed.ensures in
    record { sends = ap (λ c. c.main) told.passes ∙ sym (flow_in_is asymmetric _ _ _ below); stores = mode_stored asymmetric _ _ _ _ below c.requires.m_value c.capacity_now-capacity.ensures told.passes told.stores c.mode.ensures c.put_mode.ensures }
