-- `probe::probe_same` meets its contract.
use Rattle.probe.proofs.Ranges.{other-lengths, whole-ranges}
use Rattle.probe.proofs.probe_same.Goals as goal

pub returns-then-n-b : goal.returns-then-n-b
returns-then-n-b c = other-lengths _ _ c.if-n-b.true

pub returns : goal.returns
returns c = rw c.same_range.ensures (whole-ranges _ _ c.if-n-b.false)
