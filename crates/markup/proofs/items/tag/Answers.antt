-- `markup::items::tag` meets its contract.
use Rattle.format.specs.Markup.{name_byte}
use Rattle.markup.proofs.Splitting.{split-by}
use Rattle.markup.proofs.Tags.{tag-unnamed, tag-cut, tag-found}
use Rattle.markup.proofs.items.tag.Goals as goal
use Rattle.markup.proofs.items.tag.Goals.{then-is_empty, else-is_empty}

pub returns-then-not-begins_name : goal.returns-then-not-begins_name
returns-then-not-begins_name c =
    let s = c.split.ensures in
    tag-unnamed _ _ _ (split-by name_byte _ _ _ s.parts s.before s.stop) c.if-not-begins_name.ensures

pub returns-in_err-is_empty : goal.returns-in_err-is_empty
returns-in_err-is_empty c =
    let s = c.split.ensures in
    rw c.from_residual.ensures
    (tag-cut _ _ _ (split-by name_byte _ _ _ s.parts s.before s.stop) c.if-not-begins_name.ensures c.in_err-is_empty.ensures)

pub returns : goal.returns
returns c =
    let s = c.split.ensures in
    tag-found _ _ _ (split-by name_byte _ _ _ s.parts s.before s.stop) c.if-not-begins_name.ensures _ _ c.in_ok-is_empty.ensures _
    (elim c.if-is_empty.branch [ then-is_empty w ↦ rw (w.result-is, w.if-is_empty.true) | else-is_empty w ↦ rw (w.result-is, w.if-is_empty.false) ])
