-- `turns::paint_stretch` meets its contract.
use Rattle.turns.proofs.Stretches.{stretch-painted}
use Rattle.turns.proofs.paint_stretch.Goals as goal

pub returns : goal.returns
returns c = search stretch-painted
