-- `czi::chosen::czi_chosen` meets its contract.
use Rattle.czi.proofs.Marks.{chosen-out}
use Rattle.czi.proofs.chosen.czi_chosen.Goals as goal

pub returns : goal.returns
returns c = rw (← c.release_of.ensures) (search chosen-out)
