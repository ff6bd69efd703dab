-- `markup::items::declaration` meets its contract.
use Rattle.markup.proofs.Marking.{comment-declared, section-declared, neither}
use Rattle.markup.proofs.items.declaration.Goals as goal

pub returns-then-starts_with : goal.returns-then-starts_with
returns-then-starts_with c = comment-declared _ _ c.if-starts_with.ensures.value c.skip.ensures

pub returns-then-starts_with-2 : goal.returns-then-starts_with-2
returns-then-starts_with-2 c = section-declared _ _ c.if-starts_with.ensures.value c.if-starts_with-2.ensures.value c.skip-then-starts_with-2.ensures

pub returns : goal.returns
returns c = neither _ c.if-starts_with.ensures.value c.if-starts_with-2.ensures.value
