-- The promise of each public function settles its result: two answers that it allows for the same arguments are equal.
-- Assumes nothing.
use Rattle.whole.proofs.Settles.{Settles, settled}
use Rattle.calibrate_rows.proofs.between.Kinds as between_kinds
use Rattle.calibrate_rows.proofs.between.Reads as between_reads
use Rattle.calibrate_rows.proofs.cell_settings_fit.Kinds as cell_settings_fit_kinds
use Rattle.calibrate_rows.proofs.cell_settings_fit.Reads as cell_settings_fit_reads
use Rattle.calibrate_rows.proofs.make_row.Kinds as make_row_kinds
use Rattle.calibrate_rows.proofs.make_row.Reads as make_row_reads

pub between_settles : Settles _ between_kinds.ps between_kinds.r between_reads.Learnt
between_settles κs a y z e f = settled

pub cell_settings_fit_settles : Settles _ cell_settings_fit_kinds.ps cell_settings_fit_kinds.r cell_settings_fit_reads.Learnt
cell_settings_fit_settles κs a y z e f = settled

pub make_row_settles : Settles _ make_row_kinds.ps make_row_kinds.r make_row_reads.Learnt
make_row_settles κs a y z e f = settled
