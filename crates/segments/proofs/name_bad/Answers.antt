-- `segments::name_bad` meets its contract.
use Rattle.segments.proofs.Names.{names-all, names-stop, names-next, names_end}
use Rattle.segments.proofs.name_bad.Goals as goal

pub loop-kind-init : goal.loop-kind-init
loop-kind-init c = names-all _ _

pub returns-then-stands_at : goal.returns-then-stands_at
returns-then-stands_at c = names-stop _ _ _ _ _ c.loop-kind.invariant _ _ c.loop-kind-test.true c.stands_at.ensures c.if-stands_at.true

pub loop-kind-preserved : goal.loop-kind-preserved
loop-kind-preserved c = names-next _ _ _ _ _ c.loop-kind.invariant _ _ c.loop-kind-test.true c.stands_at.ensures c.if-stands_at.false

pub returns : goal.returns
returns c = names_end _ _ _ _ _ c.loop-kind.invariant c.loop-kind-test.false
