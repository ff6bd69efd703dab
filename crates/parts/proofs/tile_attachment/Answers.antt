-- `parts::tile_attachment` meets its contract.
use Rattle.parts.proofs.Within.{answered-within, answered-view, attachment-within}
use Rattle.parts.proofs.tile_attachment.Goals as goal

pub view_of-requires : goal.view_of-requires
view_of-requires c = search (answered-within, attachment-within)

pub returns : goal.returns
returns c = search answered-view
