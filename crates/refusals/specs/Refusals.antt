-- Rules, "Refusal numbers": the number and the place of each refusal.
use Rattle.std.specs.Prelude.{ℕ}
use Rattle.refusals.specs.declared.Refusal.{Refusal}
use Rattle.refusals.specs.declared.Refusal.TheVariants.{Length, TableNumber, RoomShares, RampAgain, StateNumber, Demand, QueueOver, Pieces, Sample, Fit, RowValue, Record, Groups}

abbrev pub number_of : Refusal → ℕ
number_of Length = 1
number_of (TableNumber cell) = 2
number_of (RoomShares cell) = 3
number_of (RampAgain cell) = 4
number_of (StateNumber cell) = 5
number_of (Demand cell) = 6
number_of (QueueOver cell) = 7
number_of (Pieces cell) = 8
number_of (Sample sample) = 9
number_of Fit = 10
number_of (RowValue value) = 11
number_of (Record place) = 12
number_of (Groups cell) = 14

-- places count from 1; 0 is the entry, a setting, or a refusal that has no place of its own
abbrev pub place_of : Refusal → ℕ
place_of Length = 0
place_of (TableNumber cell) = cell
place_of (RoomShares cell) = cell
place_of (RampAgain cell) = cell
place_of (StateNumber cell) = cell
place_of (Demand cell) = cell
place_of (QueueOver cell) = cell
place_of (Pieces cell) = cell
place_of (Sample sample) = sample
place_of Fit = 0
place_of (RowValue value) = value
place_of (Record place) = place
place_of (Groups cell) = cell
