-- `Row::step_mask` meets its contract.
use Rattle.paint.proofs.Steps.{lent-bytes, step-valid, step-invalid}
use Rattle.paint.proofs.Row.step_mask.Goals as goal

pub returns-then-valid-at-ge8 : goal.returns-then-valid-at-ge8
returns-then-valid-at-ge8 c = search step-valid

pub returns-then-other-at-ge8 : goal.returns-then-other-at-ge8
returns-then-other-at-ge8 c = search (step-invalid, lent-bytes)
