use mathlib.Core.Path.{refl}
use Rattle.program_steps.specs.Turns.{reads, did, did_text, when_passed}
use Rattle.program_steps.specs.Private.{turn_of}
use Rattle.program_steps.proofs.Turning.{nothing_written, break_stops}
use Rattle.program_steps.proofs.turns.turn_of.Goals as goal

pub returns-in-Part : goal.returns-in-Part
unfolding did did_text turn_of when_passed
returns-in-Part c = rw c.in-Part.is (nothing_written _ (reads _) _ _ _ _ _ _ refl refl refl refl)

pub returns-in-Broken : goal.returns-in-Broken
unfolding did
returns-in-Broken c =
    rw c.in-Broken.is (break_stops _ _ _ _ _ _ _ c.broken.ensures c.put_stop.ensures)

pub returns-in-Record : goal.returns-in-Record
unfolding did
returns-in-Record c =
    rw c.in-Record.is c.run_row.ensures
