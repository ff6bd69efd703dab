-- `Row::paint_uncovered` meets its contract.
use Prim.Native.Nat.{zero-le}
use Rattle.paint.proofs.Along.{lent-bytes, along-start, along-sum, along-next}
use Rattle.paint.proofs.Row.paint_uncovered.Goals as goal

pub loop-k-init : goal.loop-k-init
loop-k-init c = search (along-start, lent-bytes, zero-le)

pub overflow_add-given : goal.overflow_add-given
overflow_add-given c = search along-sum

pub loop-k-preserved : goal.loop-k-preserved
loop-k-preserved c = search along-next
