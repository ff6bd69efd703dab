-- `compose::Selected::gather` meets its contract.
use native.Mathlib.Omega.{arith}
use Rattle.compose.proofs.Agreeing.{table-few}
use Rattle.compose.proofs.Gathering.{gather-start, add-room, gather-next, gather-end}
use Rattle.compose.proofs.Selected.gather.Goals as goal

pub loop-k-init : goal.loop-k-init
loop-k-init c = search gather-start

pub offset_bounds-self-k : goal.offset_bounds-self-k
offset_bounds-self-k c = omega (arith, table-few c.requires.chosen c.requires.n_value.0)

pub bounds-self-k : goal.bounds-self-k
bounds-self-k c = omega (arith, table-few c.requires.chosen c.requires.n_value.0)

pub add_key-count-requires : goal.add_key-count-requires
add_key-count-requires c = search add-room

pub loop-k-preserved : goal.loop-k-preserved
loop-k-preserved c = search gather-next

pub returns : goal.returns
returns c = search gather-end
