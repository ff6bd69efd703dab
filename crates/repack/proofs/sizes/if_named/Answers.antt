-- `repack::sizes::if_named` meets its contract.
use Rattle.repack.proofs.Sums.{named_none, named_some}
use Rattle.repack.proofs.sizes.if_named.Goals as goal

pub returns-then-position-eq0 : goal.returns-then-position-eq0
returns-then-position-eq0 c = search named_none

pub returns-else-position-eq0 : goal.returns-else-position-eq0
returns-else-position-eq0 c = search named_some
