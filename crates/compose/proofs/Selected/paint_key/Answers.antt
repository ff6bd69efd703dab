-- `compose::Selected::paint_key` meets its contract.
use Rattle.compose.proofs.Running.{key-entry, key-inside, key-dimensions, key-asked, key-paints, key-painted}
use Rattle.compose.proofs.Selected.paint_key.Goals as goal

pub file_position-q-requires : goal.file_position-q-requires
file_position-q-requires c = search key-entry

pub asked_layer-l-requires : goal.asked_layer-l-requires
asked_layer-l-requires c = record { e_in_bounds = (search key-inside, search key-dimensions); has_asked_layer = search key-asked }

pub paint_entry-requires : goal.paint_entry-requires
paint_entry-requires c = rw c.masks_on-on.ensures (search key-paints)

pub returns : goal.returns
returns c = rw (← c.masks_on-on.ensures) (search key-painted)
