-- `repack::sizes::entries_size` meets its contract.
use native.Mathlib.Omega.{arith}
use Rattle.judge.proofs.AcceptedFile.{accepted-long, accepted-entries}
use Rattle.subblocks.proofs.PartLaws.{listed_in}
use Rattle.repack.proofs.Sums.{entry_listed, entries-start, entries-more, entries_fit, adding-next, adding-end}
use Rattle.repack.proofs.sizes.entries_size.Goals as goal

pub first_entry-e-requires : goal.first_entry-e-requires
first_entry-e-requires c = search (accepted-long, accepted-entries)

pub loop-k-init : goal.loop-k-init
loop-k-init c = search entries-start

pub entry_size-size-requires : goal.entry_size-size-requires
entry_size-size-requires c = search entry_listed

pub overflow_add-size : goal.overflow_add-size
overflow_add-size c = search entries_fit

pub next_entry-e-requires : goal.next_entry-e-requires
next_entry-e-requires c = search (listed_in, entry_listed)

pub loop-k-preserved : goal.loop-k-preserved
loop-k-preserved c = search (adding-next, entries-more)

pub returns : goal.returns
returns c = adding-end _ _ _ _ _ _ c.loop-k.invariant (omega arith)
