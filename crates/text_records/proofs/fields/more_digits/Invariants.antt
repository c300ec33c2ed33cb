use Prim.Native.Nat.{◌<◌}
use Rattle.text_records.specs.Private.{DigitsRead}
use Rattle.text_records.proofs.fields.more_digits.Given as goal

abbrev pub invariant-loop-next : goal.invariant-loop-next
invariant-loop-next l = (0 < l.value) × DigitsRead l.chunk l.from l.stop l.first (record { next = l.next; value = l.value })
