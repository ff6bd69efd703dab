-- `czi::views::czi_attachment_data` meets its contract.
use Rattle.czi.proofs.Out.{span-out}
use Rattle.czi.proofs.views.czi_attachment_data.Goals as goal

pub returns : goal.returns
returns c = rw (← c.release_of.ensures) (search span-out)
