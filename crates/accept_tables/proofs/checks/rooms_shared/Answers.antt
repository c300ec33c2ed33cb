use Rattle.std.proofs.Common.{Some, rules, arith, tests}
use Rattle.accept_tables.specs.Tables.{rooms_shared}
use Rattle.refusals.proofs.Found.{found_first, first_refused, none_refused}
use Rattle.accept_tables.proofs.checks.rooms_shared.Goals as goal

pub returns-in-Some : goal.returns-in-Some
returns-in-Some c =
    first_refused (rooms_shared c.args.table.now)
    (found_first c.find.new.self c.cells.ensures c.in-Some.ensures.ran (λ x b q k. search (rules, tests)))

pub returns-in-None : goal.returns-in-None
returns-in-None c =
    none_refused (rooms_shared c.args.table.now)
    (found_first c.find.new.self c.cells.ensures c.in-None.ensures.ran (λ x b q k. search (rules, tests)))

pub overflow_add-result : goal.overflow_add-result
overflow_add-result c =
    let first = found_first {test = (rooms_shared c.args.table.now).test} {r = Some c.in-Some.i} c.find.new.self c.cells.ensures c.in-Some.ensures.ran (λ x b q k. search (rules, tests)) in
    omega (arith, first.is.1, c.cells.type_inv)
