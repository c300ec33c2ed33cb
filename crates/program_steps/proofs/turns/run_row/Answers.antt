use mathlib.Core.Path.{sym, ◌∙◌}
use Rattle.layout.specs.Corridor.{Corridor, corridor_of}
use Rattle.period.proofs.Rows.{row_alone, row_is_accepted}
use Rattle.program_steps.proofs.Turning.{row_runs, row_stops}
use Rattle.program_steps.proofs.turns.run_row.Goals as goal

pub run_accepted-requires : goal.run_accepted-requires
run_accepted-requires c =
    let ready = c.requires.ready in
    let corridor : Corridor = corridor_of c.args.table.now c.args.state.now in
    let is_answer = c.accept_demand.ensures ∙ row_alone corridor c.args.row.now ready.fits ready.row_fits in record {
      row_accepted = row_is_accepted corridor c.args.row.now ready.fits ready.row_fits ready.accepted (sym is_answer ∙ c.in-Ok.is);
      sheet_len = ready.sheet_fits;
    }

pub returns-in-Ok : goal.returns-in-Ok
returns-in-Ok c =
    let ready = c.requires.ready in
    let is_answer = c.accept_demand.ensures ∙ row_alone (corridor_of c.args.table.now c.args.state.now) c.args.row.now ready.fits ready.row_fits in
    row_runs _ _ _ _ _ _ _ _ (sym is_answer ∙ c.in-Ok.is) c.cells.ensures c.run_accepted.ensures c.put_period.ensures

pub returns-in-Err : goal.returns-in-Err
returns-in-Err c =
    let ready = c.requires.ready in
    let is_answer = c.accept_demand.ensures ∙ row_alone (corridor_of c.args.table.now c.args.state.now) c.args.row.now ready.fits ready.row_fits in
    row_stops _ _ _ _ _ _ _ _ (sym is_answer ∙ c.in-Err.is) c.refused_in.ensures c.put_stop.ensures
