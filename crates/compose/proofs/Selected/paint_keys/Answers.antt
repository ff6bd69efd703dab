-- `compose::Selected::paint_keys` meets its contract.
use Rattle.compose.proofs.Running.{key-room, run-start, run-next, run-fits, run-end}
use Rattle.compose.proofs.Selected.paint_keys.Goals as goal

pub loop-key-init : goal.loop-key-init
loop-key-init c = search run-start

pub paint_key-requires : goal.paint_key-requires
paint_key-requires c = search key-room

pub overflow_add-stored : goal.overflow_add-stored
overflow_add-stored c = search run-fits

pub loop-key-preserved : goal.loop-key-preserved
loop-key-preserved c = search run-next

pub returns : goal.returns
returns c = search run-end
