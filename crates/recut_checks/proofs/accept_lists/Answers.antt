use mathlib.Core.Path.{sym, ◌∙◌}
use Rattle.refusals.proofs.Answers.{handed_on}
use Rattle.layout.specs.Corridor.{corridor_of}
use Rattle.recut_checks.proofs.Accepted.{lists_fit_lem}
use Rattle.recut_checks.proofs.Answers.{lists_refused, tables_refused, state_decides}
use Rattle.recut_checks.proofs.accept_lists.Goals as goal

pub returns-then-not-change_lists_fit : goal.returns-then-not-change_lists_fit
returns-then-not-change_lists_fit c =
    let a = c.args in
    lists_refused (corridor_of a.old.now a.state.now) a.counts.now a.many a.new.now a.list.now (sym c.change_lists_fit.ensures ∙ c.if-not-change_lists_fit.true)

pub returns-in_err-accept_both : goal.returns-in_err-accept_both
returns-in_err-accept_both c =
    let a = c.args in
    let lists = lists_fit_lem (corridor_of a.old.now a.state.now) a.counts.now a.many a.new.now a.list.now (sym c.change_lists_fit.ensures ∙ c.if-not-change_lists_fit.false) in
    handed_on c.from_residual.ensures (tables_refused lists c.in_err-accept_both.ensures)

pub returns : goal.returns
returns c =
    let a = c.args in
    let lists = lists_fit_lem (corridor_of a.old.now a.state.now) a.counts.now a.many a.new.now a.list.now (sym c.change_lists_fit.ensures ∙ c.if-not-change_lists_fit.false) in
    state_decides lists c.in_ok-accept_both.ensures c.accept_state_alone.ensures
