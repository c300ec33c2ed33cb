use Rattle.std.proofs.Common.{rules}
use mathlib.Core.Path.{ap}
use native.Mathlib.Omega.{arith}
use Rattle.program_files.proofs.FilePieces.{one_less, none_left}
use Rattle.program_files.proofs.read_on.Goals as goal

pub loop-byte-preserved : goal.loop-byte-preserved
loop-byte-preserved c =
    let byte = c.read_byte-reading.ensures in
    (one_less _ _ _ _ _ _ _ _ _ (search rules) byte.answer byte.stores c.loop-byte.invariant.0, omega arith)

pub returns : goal.returns
returns c =
    let given = c.args in
    let done = none_left given.fields given.chunk.now c.loop-byte.byte-index _ _ _ _ (search rules) c.loop-byte.invariant.0 in record {
      answer = ap (λ p. p.0) done;
      stores = ap (λ p. p.1) done;
    }
