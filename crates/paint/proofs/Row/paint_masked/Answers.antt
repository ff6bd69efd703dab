-- `Row::paint_masked` meets its contract.
use native.Mathlib.Omega.{arith}
use borrow.Author.Rules.{rules}
use Rattle.paint.proofs.Steps.{open-behind}
use Rattle.paint.proofs.Along.{room-less, lent-bytes, along-start, along-room, along-sum, along-next, along-masked}
use Rattle.paint.proofs.Row.paint_masked.Goals as goal

pub loop-k-init : goal.loop-k-init
loop-k-init c = search (along-start, room-less, lent-bytes)

pub step_mask-s-requires : goal.step_mask-s-requires
step_mask-s-requires c = (search rules, search along-room, search rules, search open-behind, c.columns_end-end.ensures.2 (omega arith))

pub overflow_add-given : goal.overflow_add-given
overflow_add-given c = search along-sum

pub loop-k-preserved : goal.loop-k-preserved
loop-k-preserved c = search along-next

pub returns : goal.returns
returns c = search along-masked
