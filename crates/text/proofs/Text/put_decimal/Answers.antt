-- `Text::put_decimal` meets its contract.
use Rattle.text.specs.Text.{decimal}
use Rattle.text.proofs.Text.put_decimal.Goals as goal

pub returns-clause-said : goal.returns-clause-said
unfolding decimal
returns-clause-said c = c.put_digits.ensures.said
