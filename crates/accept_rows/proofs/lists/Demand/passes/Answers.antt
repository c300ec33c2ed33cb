use Rattle.std.proofs.Common.{rules, tests, ◌+◌, ◌&&◌, ap}
use Rattle.whole.proofs.Search.{all_every}
use Rattle.layout.specs.Corridor.{corridor_of}
use Rattle.accept_rows.specs.Acceptance.{demand_in_range, queues_hold}
use Rattle.accept_rows.proofs.lists.Demand.passes.Goals as goal

pub returns : goal.returns
returns c =
    let d = c.args.self.now in
    all_every (λ p. (demand_in_range (corridor_of d.corridor.table.now d.corridor.state.now) d.row.now).test p && (queues_hold (corridor_of d.corridor.table.now d.corridor.state.now) d.row.now).test p) c.all.new.self (ap (λ n. n + 1) c.cells-positions.ensures) c.all.ensures.ran (λ x b q k. search (rules, tests))
