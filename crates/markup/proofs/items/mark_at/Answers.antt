-- `markup::items::mark_at` meets its contract.
use Rattle.markup.proofs.Marking.{mark-none, declared-at, instruction-marked, end-marked, tag-marked}
use Rattle.markup.proofs.items.mark_at.Goals as goal

pub returns-in_err-kind : goal.returns-in_err-kind
returns-in_err-kind c = rw c.from_residual.ensures (mark-none _ c.in_err-kind.ensures.cases)

pub returns-then-kind-eq33 : goal.returns-then-kind-eq33
returns-then-kind-eq33 c = declared-at _ _ _ c.in_ok-kind.ensures.cases.0 _ c.if-kind-eq33.true c.declaration.ensures

pub returns-then-kind-eq63 : goal.returns-then-kind-eq63
returns-then-kind-eq63 c = instruction-marked _ _ _ c.in_ok-kind.ensures.cases.0 _ c.if-kind-eq63.true c.skip.ensures

pub returns-then-kind-eq47 : goal.returns-then-kind-eq47
returns-then-kind-eq47 c = end-marked _ _ _ c.in_ok-kind.ensures.cases.0 _ c.if-kind-eq47.true c.end_tag.ensures

pub returns : goal.returns
returns c = tag-marked _ _ _ c.in_ok-kind.ensures.cases.0 _ c.if-kind-eq33.false c.if-kind-eq63.false c.if-kind-eq47.false c.tag.ensures
