-- `czi::views::czi_tile_pixels` meets its contract.
use Rattle.czi.proofs.Out.{span-out}
use Rattle.czi.proofs.views.czi_tile_pixels.Goals as goal

pub returns : goal.returns
returns c = rw (← c.release_of.ensures) (search span-out)
