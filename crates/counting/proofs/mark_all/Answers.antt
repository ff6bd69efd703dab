-- `counting::mark_all` meets its contract.
use native.Mathlib.Omega.{arith}
use borrow.Author.Rules.{rules}
use Rattle.judge.proofs.AcceptedFile.{accepted-long, accepted-entries}
use Rattle.judge.proofs.EntryLoop.{at-fixed}
use Rattle.counting.proofs.Marking.{marking-start, marking-all, marking-listed, marking-size}
use Rattle.counting.proofs.Marking.{marking-room, selected-most, meeting-most, marking-next, marking-end}
use Rattle.counting.proofs.mark_all.Goals as goal

pub first_entry-e-requires : goal.first_entry-e-requires
first_entry-e-requires c = search (accepted-long, accepted-entries)

pub loop-k-init : goal.loop-k-init
loop-k-init c = search marking-start

pub mark_at-mark-requires : goal.mark_at-mark-requires
mark_at-mark-requires c = record { listed = search marking-listed; width_bound = search rules }

pub bounds-marks-k : goal.bounds-marks-k
bounds-marks-k c = search marking-room

pub overflow_add-selected : goal.overflow_add-selected
overflow_add-selected c = omega (arith, selected-most _ _ _ _ _ _ _ _ _ _ _ c.loop-k.invariant _ _ c.from-selected.ensures c.loop-k-test.true)

pub overflow_add-meeting : goal.overflow_add-meeting
overflow_add-meeting c = omega (arith, meeting-most _ _ _ _ _ _ _ _ _ _ _ c.loop-k.invariant _ _ c.from-meeting.ensures c.loop-k-test.true)

pub next_entry-e-requires : goal.next_entry-e-requires
next_entry-e-requires c = search (at-fixed, marking-all)

pub loop-k-preserved : goal.loop-k-preserved
loop-k-preserved c = search marking-next

pub shape_of-marks : goal.shape_of-marks
shape_of-marks c = search marking-size

pub returns : goal.returns
returns c = search marking-end
