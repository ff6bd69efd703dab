-- `entries::holds_below` meets its contract.
use Rattle.entries.proofs.Passed.{passed_start, passed-next, passed-found, passed-end}
use Rattle.entries.proofs.holds_below.Goals as goal

pub loop-k-init : goal.loop-k-init
loop-k-init c = passed_start _ _

pub returns-then-has_letter : goal.returns-then-has_letter
returns-then-has_letter c = search passed-found

pub loop-k-preserved : goal.loop-k-preserved
loop-k-preserved c = search passed-next

pub returns : goal.returns
returns c = search passed-end
