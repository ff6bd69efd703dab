-- `czi::views::czi_common_attachment` meets its contract.
use Rattle.czi.proofs.Out.{span-out}
use Rattle.czi.proofs.views.czi_common_attachment.Goals as goal

pub returns : goal.returns
returns c = rw (← c.release_of.ensures) (search span-out)
