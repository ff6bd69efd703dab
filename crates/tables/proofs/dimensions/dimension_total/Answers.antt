-- `tables::dimensions::dimension_total` meets its contract.
use native.Mathlib.Omega.{arith}
use Rattle.judge.proofs.AcceptedFile.{accepted-long, accepted-entries}
use Rattle.judge.proofs.EntryLoop.{at-fixed}
use Rattle.tables.proofs.Filling.{counting-start, counting-all, counting-few, counting-next, counting-end}
use Rattle.tables.proofs.dimensions.dimension_total.Goals as goal

pub first_entry-e-requires : goal.first_entry-e-requires
first_entry-e-requires c = search (accepted-long, accepted-entries)

pub loop-init : goal.loop-init
loop-init c = search counting-start

pub dimension_count-total-requires : goal.dimension_count-total-requires
dimension_count-total-requires c = search (at-fixed, counting-all)

pub overflow_add-total : goal.overflow_add-total
overflow_add-total c = omega (arith, counting-few _ _ _ _ _ c.loop.invariant c.requires.0 c.requires.1, c.dimension_count-total.ensures.1)

pub next_entry-e-requires : goal.next_entry-e-requires
next_entry-e-requires c = search (at-fixed, counting-all)

pub loop-preserved : goal.loop-preserved
loop-preserved c = search counting-next

pub returns : goal.returns
returns c = search (counting-end, counting-few)
