-- `Text::put_line` meets its contract.
use Rattle.std.proofs.Common.{◌∙◌, append_assoc}
use Rattle.text.specs.Text.{line}
use Rattle.text.proofs.Text.put_line.Goals as goal

pub returns-clause-said : goal.returns-clause-said
unfolding line
returns-clause-said c = c.push.ensures ∙ rw (c.put_decimal.ensures.said, c.put.ensures) (simp append_assoc)
