-- `czi::views::czi_tile_metadata` meets its contract.
use Rattle.czi.proofs.Out.{span-out}
use Rattle.czi.proofs.views.czi_tile_metadata.Goals as goal

pub returns : goal.returns
returns c = rw (← c.release_of.ensures) (search span-out)
