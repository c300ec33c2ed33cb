use Rattle.std.specs.Slice.Iter.{chunks_exact_rest, chunks_exact_size}
use Rattle.layout.specs.Corridor.{corridor_of}
use Rattle.period.specs.Sharing.{asymmetric}
use Rattle.period.proofs.Fair.{asymmetric_is_fair}
use Rattle.period_run.proofs.Rows.{AtRow}
use Rattle.period_run.proofs.run_rows.Given as goal

abbrev pub invariant-loop-k : goal.invariant-loop-k
invariant-loop-k l =
    let chunks = l.k-iterator.iter in
    AtRow asymmetric asymmetric_is_fair (corridor_of l.table l.initial.state) l.demand l.initial.sheet (chunks_exact_size chunks) l.k-iterator.count (chunks_exact_rest chunks) l.state l.sheet
