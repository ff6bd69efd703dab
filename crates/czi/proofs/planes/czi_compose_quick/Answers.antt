-- `czi::planes::czi_compose_quick` meets its contract.
use Rattle.czi.proofs.Out.{request-back, plane-out}
use Rattle.czi.proofs.planes.czi_compose_quick.Goals as goal

pub returns : goal.returns
returns c =
    rw (← c.release_of.ensures)
    (plane-out c.compose_quick-answer.ensures (request-back _ c.request_of-f.ensures c.ranges.left.sfits c.ranges.top.sfits)
    c.tell_counts.ensures.refusal c.tell_counts.ensures.counts)
