-- `selection::select` meets its contract.
use native.Mathlib.Omega.{arith}
use Rattle.judge.proofs.AcceptedFile.{accepted-long, accepted-entries}
use Rattle.judge.proofs.EntryLoop.{at-fixed, at-whole, at-dimensions}
use Rattle.selection.proofs.Selecting.{selecting_start, selecting-all, selecting-few, selecting-next, selecting-end}
use Rattle.selection.proofs.select.Goals as goal

pub first_entry-e-requires : goal.first_entry-e-requires
first_entry-e-requires c = search (accepted-long, accepted-entries)

pub loop-k-init : goal.loop-k-init
loop-k-init c = search selecting_start

pub place_if_selected-requires : goal.place_if_selected-requires
place_if_selected-requires c = search (at-whole, at-dimensions, selecting-all)

pub offset_bounds-table-k : goal.offset_bounds-table-k
offset_bounds-table-k c = omega (arith, selecting-few _ _ _ _ _ _ _ _ c.loop-k.invariant c.requires.accepted_file)

pub bounds-table-k : goal.bounds-table-k
bounds-table-k c = omega (arith, selecting-few _ _ _ _ _ _ _ _ c.loop-k.invariant c.requires.accepted_file)

pub next_entry-e-requires : goal.next_entry-e-requires
next_entry-e-requires c = search (at-fixed, selecting-all)

pub loop-k-preserved : goal.loop-k-preserved
loop-k-preserved c = search selecting-next

pub returns : goal.returns
returns c = search selecting-end
