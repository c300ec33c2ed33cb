use Rattle.std.proofs.Common.{rules, tests, ◌+◌, ap}
use Rattle.refusals.proofs.Found.{found_first, first_refused, none_refused}
use Rattle.layout.specs.Corridor.{corridor_of}
use Rattle.accept_rows.specs.Acceptance.{demand_in_range}
use Rattle.accept_rows.proofs.lists.Demand.in_range.Goals as goal

pub returns-in-Some : goal.returns-in-Some
returns-in-Some c =
    let d = c.args.self.now in
    first_refused (demand_in_range (corridor_of d.corridor.table.now d.corridor.state.now) d.row.now)
    (found_first c.find.new.self (ap (λ n. n + 1) c.cells-positions.ensures) c.in-Some.ensures.ran (λ x b q k. search (rules, tests)))

pub returns-in-None : goal.returns-in-None
returns-in-None c =
    let d = c.args.self.now in
    none_refused (demand_in_range (corridor_of d.corridor.table.now d.corridor.state.now) d.row.now)
    (found_first c.find.new.self (ap (λ n. n + 1) c.cells-positions.ensures) c.in-None.ensures.ran (λ x b q k. search (rules, tests)))
