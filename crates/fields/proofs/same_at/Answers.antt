-- `fields::same_at` meets its contract.
use mathlib.Core.Path.{◌∙◌}
use Rattle.fields.proofs.Words.{range_at}
use Rattle.fields.proofs.same_at.Goals as goal

pub returns : goal.returns
returns c = c.same_range.ensures ∙ range_at _ _ _
