use Rattle.tables.proofs.Filling.{Counting}
use Rattle.tables.proofs.dimensions.dimension_total.Given as goal

abbrev pub invariant-loop : goal.invariant-loop
invariant-loop l = Counting l.s l.n l.e l.total l.counter
