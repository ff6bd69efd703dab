use Rattle.format.specs.Entry.{has_letter}
use Rattle.entries.proofs.Passed.{Passed}
use Rattle.entries.proofs.holds_below.Given as goal

abbrev pub invariant-loop-k : goal.invariant-loop-k
invariant-loop-k l = Passed l.j (has_letter l.s l.e l.x) l.k
