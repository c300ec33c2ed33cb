use Rattle.layout.proofs.Laid.{is_space}
use Rattle.layout.proofs.space.Goals as goal

pub returns : goal.returns
returns g c = is_space _
