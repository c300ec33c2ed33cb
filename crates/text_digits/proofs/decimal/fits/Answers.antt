use Prim.Native.Nat.{◌+◌}
use mathlib.Core.Path.{sym}
use native.Mathlib.Omega.{arith}
use borrow.Author.Tests.{le-leb}
use lib.ListN.{length}
use Rattle.text_digits.proofs.Digits.{at_most_20}
use Rattle.text_digits.specs.Lines.{digits_of}
use Rattle.text_digits.proofs.decimal.fits.Goals as goal

pub returns-then-room-ge20 : goal.returns-then-room-ge20
returns-then-room-ge20 c = let a = c.args in sym (le-leb (a.at + length (digits_of a.number)) a.size (omega (arith, at_most_20 a.number (omega arith))))
