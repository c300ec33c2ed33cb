use Rattle.recut_checks.specs.Pieces.{piece_count}
use Rattle.recut_checks.proofs.pieces.counts_sum.Given as goal

abbrev pub ghost-sums_to : goal.ghost-sums_to
ghost-sums_to a = piece_count a.term.0.now
