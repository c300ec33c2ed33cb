-- Cited by private contracts and proofs alone: no public promise rests on this file.
-- The corridor that lists of a checked length are.
use Rattle.layout.specs.Corridor.{Corridor, corridor_of}
use Rattle.accept_rows.specs.declared.lists.Corridor.{Corridor as Lists}

abbrev pub seen : Lists → Corridor
seen lists = corridor_of lists.table.now lists.state.now
