-- `segments::walked::Walk::walked_as` meets its contract.
use Rattle.segments.proofs.Naming.{some-named}
use Rattle.segments.proofs.walked.Walk.walked_as.Goals as goal

pub returns : goal.returns
returns c = rw (c.is_some.ensures, c.index_as.ensures) (some-named _ _ _)
