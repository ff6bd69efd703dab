use Rattle.counting.proofs.Marking.{Marking}
use Rattle.counting.proofs.mark_all.Given as goal

abbrev pub invariant-loop-k : goal.invariant-loop-k
invariant-loop-k l = Marking l.s l.starts l.any_scene l.w l.initial.marks l.marks l.n l.e l.selected l.meeting l.k
