-- `parts::tile_metadata` meets its contract.
use Rattle.parts.proofs.Within.{answered-within, answered-view, metadata-within}
use Rattle.parts.proofs.tile_metadata.Goals as goal

pub view_of-requires : goal.view_of-requires
view_of-requires c = search (answered-within, metadata-within)

pub returns : goal.returns
returns c = search answered-view
