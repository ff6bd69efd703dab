-- `Text::put_digits` meets its contract.
use Rattle.std.proofs.Common.{◌∙◌}
use Rattle.text.proofs.Digits.{put-none, put-digit, put-digits, put-most}
use Rattle.text.proofs.Text.+put_digits.Goals as goal
use Rattle.text.proofs.Text.+put_digits.Goals.{then-x-ge10, else-x-ge10}

pub returns-then-n-eq0-clause-said : goal.returns-then-n-eq0-clause-said
returns-then-n-eq0-clause-said t c = put-none _ _ _ c.if-n-eq0.true

pub returns-clause-said : goal.returns-clause-said
returns-clause-said t c =
    elim c.if-x-ge10.branch [
      | then-x-ge10 w ↦ put-digits _ _ _ _ _ c.if-n-eq0.false w.if-x-ge10.true (w.self-is ∙ w.put_digits.ensures.said) c.push.ensures
      | else-x-ge10 w ↦ put-digit _ _ _ _ _ c.if-n-eq0.false w.if-x-ge10.false w.self-is c.push.ensures
    ]

pub returns-clause-most : goal.returns-clause-most
returns-clause-most t c = put-most _ _ _ _ (returns-clause-said t c)
