-- Cited by private contracts and proofs alone: no public promise rests on this file.
-- The corridor that a period starts from.
use Rattle.layout.specs.Corridor.{Corridor, corridor_of}
use Rattle.period.specs.declared.passes.Start.{Start}

abbrev pub corridor : Start → Corridor
corridor start = corridor_of start.table.now start.state.now
