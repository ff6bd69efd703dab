-- `markup::items::end_tag` meets its contract.
use Rattle.format.specs.Markup.{white, name_byte}
use Rattle.markup.proofs.Splitting.{split-by}
use Rattle.markup.proofs.Tags.{end-unnamed, end-cut, close-other, close-found}
use Rattle.markup.proofs.items.end_tag.Goals as goal

pub returns-then-not-begins_name : goal.returns-then-not-begins_name
returns-then-not-begins_name c =
    let s = c.split.ensures in
    end-unnamed _ _ _ (split-by name_byte _ _ _ s.parts s.before s.stop) c.if-not-begins_name.ensures

pub returns-in_err-last : goal.returns-in_err-last
returns-in_err-last c =
    let s = c.split.ensures in
    let w = c.split-2.ensures in
    rw c.from_residual.ensures
    (end-cut _ _ _ (split-by name_byte _ _ _ s.parts s.before s.stop) c.if-not-begins_name.ensures _ _
    (split-by white _ _ _ w.parts w.before w.stop) c.in_err-last.ensures.cases)

pub returns-then-last-ne62 : goal.returns-then-last-ne62
returns-then-last-ne62 c =
    let s = c.split.ensures in
    let w = c.split-2.ensures in
    close-other _ _ _ (split-by name_byte _ _ _ s.parts s.before s.stop) c.if-not-begins_name.ensures _ _
    (split-by white _ _ _ w.parts w.before w.stop) _ _ c.in_ok-last.ensures.cases.0 c.if-last-ne62.true

pub returns : goal.returns
returns c =
    let s = c.split.ensures in
    let w = c.split-2.ensures in
    close-found _ _ _ (split-by name_byte _ _ _ s.parts s.before s.stop) c.if-not-begins_name.ensures _ _
    (split-by white _ _ _ w.parts w.before w.stop) _ _ c.in_ok-last.ensures.cases.0 c.if-last-ne62.false
