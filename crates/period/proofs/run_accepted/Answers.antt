use Rattle.layout.specs.Corridor.{corridor_of}
use Rattle.period.specs.Sharing.{asymmetric}
use Rattle.period.proofs.Facts.{facts, some_cell}
use Rattle.period.proofs.Fair.{asymmetric_is_fair}
use Rattle.period.proofs.Moving.{can_move_on, moved_on}
use Rattle.period.proofs.run_accepted.Goals as goal

pub invariant_of-start : goal.invariant_of-start
invariant_of-start c =
    let corridor = corridor_of c.args.table.now c.args.state.now in
    let known = facts corridor c.args.demand.now c.requires.row_accepted in
    record {
      all = c.cells-n.ensures;
      some = some_cell corridor c.args.demand.now c.requires.row_accepted c.cells-n.ensures;
      state_len = rw c.cells-n.ensures known.state_len;
      demand_len = rw c.cells-n.ensures known.demand_len;
      row_accepted = c.requires.row_accepted;
    }

pub bring_up_to_date-requires : goal.bring_up_to_date-requires
bring_up_to_date-requires c =
    let lists = c.args in
    can_move_on asymmetric (corridor_of lists.table.now lists.state.now) lists.demand.now asymmetric_is_fair c.requires.row_accepted c.flows.ensures c.cells-n.ensures

pub returns : goal.returns
returns c =
    let lists = c.args in
    moved_on asymmetric (corridor_of lists.table.now lists.state.now) lists.demand.now c.flows.ensures c.cells-n.ensures c.bring_up_to_date.ensures
