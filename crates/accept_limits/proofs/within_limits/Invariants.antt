use mathlib.Core.Path.{◌≡◌}
use lib.Dec.{leb}
use lib.ListN.{get_or}
use Rattle.whole.specs.Search.{every}
use Rattle.accept_limits.proofs.within_limits.Given as goal

abbrev pub invariant-loop-i : goal.invariant-loop-i
invariant-loop-i l = l.all ≡ every l.i (λ k. leb (get_or l.demand k 0) (get_or l.limits k 0))
