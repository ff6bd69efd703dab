-- `compose::Selected::agree` meets its contract.
use native.Mathlib.Omega.{arith}
use Rattle.compose.proofs.Agreeing.{table-few, table-listed, agree-start, agree-next, agree-stop, agree-end}
use Rattle.compose.proofs.Selected.agree.Goals as goal

pub loop-k-init : goal.loop-k-init
loop-k-init c = search agree-start

pub offset_bounds-self-k : goal.offset_bounds-self-k
offset_bounds-self-k c = omega (arith, table-few c.requires.chosen c.requires.n_value.0)

pub bounds-self-k : goal.bounds-self-k
bounds-self-k c = omega (arith, table-few c.requires.chosen c.requires.n_value.0)

pub disagrees-requires : goal.disagrees-requires
disagrees-requires c = record { listed = table-listed c.requires.chosen c.requires.n_value.0 _ c.loop-k-test.true; edges = c.requires.n_value.1 }

pub returns-then-disagrees : goal.returns-then-disagrees
returns-then-disagrees c = search agree-stop

pub loop-k-preserved : goal.loop-k-preserved
loop-k-preserved c = search agree-next

pub returns : goal.returns
returns c = search agree-end
