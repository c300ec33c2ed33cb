-- Rules, "The text and the program": what a refusal's line says.
use Rattle.std.specs.Prelude.{ℕ}
use Rattle.refusals.specs.declared.Refusal.{Refusal}
use Rattle.refusals.specs.declared.Refusal.TheVariants.{Record}
use Rattle.refusals.specs.Refusals.{number_of, place_of}
use Rattle.program_files.specs.declared.Stop.{Stop}

-- the number and the place of a refusal, in a period and a file
abbrev pub stop_of : ℕ → Refusal → ℕ → Stop
stop_of period refusal file = record { period = period; place = place_of refusal; number = number_of refusal; file = file }

-- number 12, with the record and the file; a file that is missing has place 0
abbrev pub broken : ℕ → ℕ → ℕ → Stop
broken period place file = stop_of period (Record place) file

-- any other number
abbrev pub refused_in : ℕ → Refusal → Stop
refused_in period refusal = stop_of period refusal 0
