-- The promise of the re-cut settles its answer and what it leaves in the new state's list; that of a share by hand settles its result. Assumes
-- nothing.
use Prim.Native.Nat.{ℕ}
use mathlib.Core.List.{List}
use Rattle.whole.proofs.Settles.{Settles, SettlesLists, settled}
use Rattle.recut.proofs.recut.Kinds as recut_kinds
use Rattle.recut.proofs.recut.Reads as recut_reads
use Rattle.recut.proofs.share_by_hand.Kinds as share_by_hand_kinds
use Rattle.recut.proofs.share_by_hand.Reads as share_by_hand_reads

pub recut_settles : SettlesLists _ recut_kinds.ps recut_kinds.r (List ℕ) (λ κs e. e.1.1.1.1.0.now) recut_reads.Learnt
recut_settles κs a y z e f p q = (settled p.answered q.answered, settled p.leaves q.leaves)

pub share_by_hand_settles : Settles _ share_by_hand_kinds.ps share_by_hand_kinds.r share_by_hand_reads.Learnt
share_by_hand_settles κs a y z e f = settled
