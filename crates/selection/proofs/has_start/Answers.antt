-- `selection::has_start` meets its contract.
use Rattle.format.proofs.Flags.{cond-true, is_true}
use Rattle.selection.specs.Select.{has_start}
use Rattle.selection.proofs.Starts.{start-same, start-before, start-later}
use Rattle.selection.proofs.has_start.Goals as goal

pub returns-then-is_free : goal.returns-then-is_free
unfolding has_start
returns-then-is_free c = search (cond-true, is_true)

pub returns-then-start-asked : goal.returns-then-start-asked
returns-then-start-asked c = search start-same

pub returns-then-start-asked-2 : goal.returns-then-start-asked-2
returns-then-start-asked-2 c = search start-later

pub returns-else-start-asked-2 : goal.returns-else-start-asked-2
returns-else-start-asked-2 c = search start-before
