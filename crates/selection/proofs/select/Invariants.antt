use Rattle.selection.proofs.Selecting.{Selecting}
use Rattle.selection.proofs.select.Given as goal

abbrev pub invariant-loop-k : goal.invariant-loop-k
invariant-loop-k l = Selecting l.s l.starts l.any_scene l.initial.table l.table l.n l.e l.k
