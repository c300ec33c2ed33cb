use Rattle.std.proofs.Common.{◌≤◌, sym, arith}
use Rattle.std.proofs.Math.Seq.{length-take-le}
use Rattle.layout.specs.Layout.{MOST}
use Rattle.program_files.proofs.Finding.{cells_told}
use Rattle.simulate.proofs.run.Goals as goal

pub table_length-requires : goal.table_length-requires
table_length-requires g c = omega (arith, (cells_told _ _ (sym c.in_ok-n.ensures)).most)

pub slice_bounds-table-end : goal.slice_bounds-table-end
slice_bounds-table-end g c = omega (arith, (cells_told _ _ (sym c.in_ok-n.ensures)).most, c.table_length.ensures)

pub slice_bounds-with_cells-end : goal.slice_bounds-with_cells-end
slice_bounds-with_cells-end g c =
    let most : c.in_ok-n.n ≤ MOST = (cells_told _ _ (sym c.in_ok-n.ensures)).most in
    sym (length-take-le c.table_length.result c.read_file-file.new.list (omega (arith, c.table_length.ensures)))

pub with_cells-requires : goal.with_cells-requires
with_cells-requires g c = (cells_told _ _ (sym c.in_ok-n.ensures)).most
