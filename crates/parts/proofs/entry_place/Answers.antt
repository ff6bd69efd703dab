-- `parts::entry_place` meets its contract.
use native.Mathlib.Nat.{le_of_lt}
use Rattle.judge.proofs.AcceptedFile.{accepted-long, accepted-entries}
use Rattle.judge.proofs.EntryLoop.{at-start, at_next, at-end, at-fixed}
use Rattle.parts.proofs.entry_place.Goals as goal

pub first_entry-e-requires : goal.first_entry-e-requires
first_entry-e-requires c = search (accepted-long, accepted-entries)

pub loop-init : goal.loop-init
loop-init c = search at-start

pub next_entry-e-requires : goal.next_entry-e-requires
next_entry-e-requires c = search (at-fixed, le_of_lt)

pub loop-preserved : goal.loop-preserved
loop-preserved c = search at_next

pub returns : goal.returns
returns c = search at-end
