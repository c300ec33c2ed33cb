use mathlib.Core.Path.{◌≡◌}
use lib.ListN.{length}
use Rattle.program_files.proofs.FilePieces.{Left}
use Rattle.program_files.proofs.read_on.Given as goal

abbrev pub invariant-loop-byte : goal.invariant-loop-byte
invariant-loop-byte l = Left l.fields l.chunk l.initial.reading l.initial.list l.byte-index l.reading l.list × (length l.list ≡ length l.initial.list)
