use mathlib.Core.Path.{refl}
use Rattle.program_steps.proofs.Writing.{bytes_copied}
use Rattle.program_steps.proofs.lines.put_bytes.Goals as goal

pub returns : goal.returns
returns c = record { ends = refl; stores = bytes_copied c.args.bytes.now c.args.out.now c.args.at c.requires c.copy_from_slice.ensures.after }
