-- `Row::step_map` meets its contract.
use Rattle.paint.proofs.Steps.{lent-bytes, step-covered}
use Rattle.paint.proofs.Row.step_map.Goals as goal

pub returns-then-covered-at-ge8 : goal.returns-then-covered-at-ge8
returns-then-covered-at-ge8 c = search (step-covered, lent-bytes)
