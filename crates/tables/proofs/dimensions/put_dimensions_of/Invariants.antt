use Prim.Native.Nat.{◌≤◌}
use Rattle.tables.specs.Steps.{DimensionsPut}
use Rattle.tables.proofs.dimensions.put_dimensions_of.Given as goal

abbrev pub invariant-loop-j : goal.invariant-loop-j
invariant-loop-j l = (l.j ≤ l.c) × DimensionsPut l.s l.k l.j l.r l.initial.numbers l.initial.starts l.numbers l.starts
