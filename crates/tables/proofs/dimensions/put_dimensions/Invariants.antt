use Rattle.tables.proofs.Filling.{DimensionsFilling}
use Rattle.tables.proofs.dimensions.put_dimensions.Given as goal

abbrev pub invariant-loop-k : goal.invariant-loop-k
invariant-loop-k l = DimensionsFilling l.s l.n l.e l.r l.k l.initial.numbers l.initial.starts l.numbers l.starts
