use Rattle.simulate.proofs.Reading.{unopened}
use Rattle.simulate.proofs.read_file.Goals as goal

pub returns-in-Err : goal.returns-in-Err
returns-in-Err g c = unopened _ _
