use Prim.Native.Nat.{◌-◌}
use mathlib.Core.Path.{◌≡◌}
use lib.ListN.{length}
use Rattle.text_records.specs.Private.{FieldsRead}
use Rattle.text_records.proofs.fields.whole_fields.Given as goal

abbrev pub invariant-loop-at : goal.invariant-loop-at
invariant-loop-at l = FieldsRead l.chunk l.from l.stop l.field-2 l.initial.row l.row (record { field = l.field; at = l.at }) × (length l.row ≡ length l.initial.row)

abbrev pub decreases-loop-at : goal.decreases-loop-at
decreases-loop-at l = l.stop - l.at
