use Rattle.program_steps.proofs.Writing.{rest_to, cell_put}
use Rattle.program_steps.proofs.lines.put_cell.Goals as goal

pub unwrap-requires : goal.unwrap-requires
unwrap-requires c =
    rw (rest_to c.requires c.put_bytes-to.ensures c.put_bytes-to.auto.out _ c.write_rest.ensures.answer).0

-- the numbers of the line, as they are handed on, are those of the cell's record
pub returns : goal.returns
returns c =
    let told = c.write_rest.ensures in
    cell_put c.requires c.put_bytes-to.ensures c.put_bytes-to.auto.out _ told.answer (cc) told.stores told.within c.unwrap.ensures
