use Rattle.format.specs.Entry.{dimension_count, has_letter}
use Rattle.entries.proofs.Passed.{Passed}
use Rattle.entries.proofs.letter_index.Given as goal

abbrev pub invariant-loop-k : goal.invariant-loop-k
invariant-loop-k l = Passed (dimension_count l.s l.e) (has_letter l.s l.e l.x) l.k
