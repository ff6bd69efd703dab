-- `parts::tile_pixels` meets its contract.
use Rattle.parts.proofs.Within.{answered-within, answered-view, pixels-within}
use Rattle.parts.proofs.tile_pixels.Goals as goal

pub view_of-requires : goal.view_of-requires
view_of-requires c = search (answered-within, pixels-within)

pub returns : goal.returns
returns c = search answered-view
