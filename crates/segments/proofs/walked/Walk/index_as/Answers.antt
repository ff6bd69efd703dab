-- `segments::walked::Walk::index_as` meets its contract.
use Rattle.segments.proofs.Naming.{missed, found_in, of-kind, of_other}
use Rattle.segments.proofs.walked.Walk.index_as.Goals as goal

pub returns-in_default : goal.returns-in_default
returns-in_default c = search (missed, rw c.args.self.now.walked at c.binary_search.ensures.position)

pub same_name-requires : goal.same_name-requires
same_name-requires c = (found_in _ _ _ (rw c.args.self.now.walked at c.binary_search.ensures.position) _ c.in-Ok.is, c.requires)

pub returns-then-same_name : goal.returns-then-same_name
returns-then-same_name c =
    of-kind _ _ _ (rw c.args.self.now.walked at c.binary_search.ensures.position) _ c.in-Ok.is _ _ c.same_name.ensures c.if-same_name.true

pub returns : goal.returns
returns c =
    of_other _ _ _ (rw c.args.self.now.walked at c.binary_search.ensures.position) _ c.in-Ok.is _ _ c.same_name.ensures c.if-same_name.false
