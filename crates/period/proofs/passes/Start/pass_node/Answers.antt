use native.Mathlib.Omega.{arith}
use Rattle.period.specs.Sharing.{asymmetric}
use Rattle.period.proofs.Nodes.{read, count_fits, node_is, node_stored}
use Rattle.period.proofs.passes.Start.pass_node.Goals as goal

pub returns : goal.returns
returns c =
    let is = node_is asymmetric _ _ _ c.row_at.ensures c.count_at.ensures c.requires.a_value c.ramp_offer-e.ensures c.asymmetric-passed.ensures in
    record { passes = is; stores = node_stored asymmetric _ _ _ _ (omega (arith, c.args.self.now.all, c.requires.inside)) is c.put_flow.ensures c.put_on_flow.ensures }

pub asymmetric-passed-requires : goal.asymmetric-passed-requires
asymmetric-passed-requires c = count_fits (read c.args.self.now c.requires.inside c.row_at.ensures c.count_at.ensures)
