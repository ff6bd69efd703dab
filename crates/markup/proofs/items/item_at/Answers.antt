-- `markup::items::item_at` meets its contract.
use Rattle.format.specs.Markup.{text_byte}
use Rattle.markup.proofs.Splitting.{split-by}
use Rattle.markup.proofs.Marking.{text-unmarked, text_none, marked-at}
use Rattle.markup.proofs.items.item_at.Goals as goal

pub returns-in_default : goal.returns-in_default
returns-in_default c = text_none _ c.in_default.ensures.cases

pub returns-then-first-eq60 : goal.returns-then-first-eq60
returns-then-first-eq60 c = marked-at _ _ _ c.in-Some.ensures.cases.0 c.if-first-eq60.true _ c.mark_at.ensures

pub returns : goal.returns
returns c =
    let s = c.split.ensures in
    text-unmarked _ _ _ _ _ c.in-Some.ensures.cases.0 c.if-first-eq60.false (split-by text_byte _ _ _ s.parts s.before s.stop)
