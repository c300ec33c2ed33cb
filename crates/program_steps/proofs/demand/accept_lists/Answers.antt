use mathlib.Core.Path.{◌≡◌, ap, ◌∙◌}
use Rattle.layout.specs.Corridor.{corridor_of, cells_of}
use Rattle.program_steps.specs.Demand.{follow_lists_fit}
use Rattle.program_steps.proofs.Calls.{lists_refused, lists_left}
use Rattle.program_steps.proofs.demand.accept_lists.Goals as goal

pub returns-then-not-lists_fit : goal.returns-then-not-lists_fit
returns-then-not-lists_fit c =
    let given = c.args in
    let told : c.lists_fit.result ≡ follow_lists_fit (cells_of (corridor_of given.table.now given.state.now)) given.row.now given.sheet.now given.out.now =
    c.lists_fit.ensures ∙ ap (λ n. follow_lists_fit n given.row.now given.sheet.now given.out.now) c.cells.ensures
    in
    lists_refused _ _ _ _ told c.if-not-lists_fit.true

pub returns : goal.returns
returns c =
    let given = c.args in
    let told : c.lists_fit.result ≡ follow_lists_fit (cells_of (corridor_of given.table.now given.state.now)) given.row.now given.sheet.now given.out.now =
    c.lists_fit.ensures ∙ ap (λ n. follow_lists_fit n given.row.now given.sheet.now given.out.now) c.cells.ensures
    in
    lists_left _ _ _ _ told c.if-not-lists_fit.false c.accept_state.ensures
