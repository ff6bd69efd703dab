-- `entries::letter_index` meets its contract.
use Rattle.format.specs.Entry.{letter_index}
use Rattle.entries.proofs.Passed.{passed_start, passed-next, passed-least, passed-no-least}
use Rattle.entries.proofs.letter_index.Goals as goal

pub loop-k-init : goal.loop-k-init
loop-k-init c = passed_start _ _

pub returns-then-has_letter : goal.returns-then-has_letter
unfolding letter_index
returns-then-has_letter c = search passed-least

pub loop-k-preserved : goal.loop-k-preserved
loop-k-preserved c = search passed-next

pub returns : goal.returns
unfolding letter_index
returns c = search passed-no-least
