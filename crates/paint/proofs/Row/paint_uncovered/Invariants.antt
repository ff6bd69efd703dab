use Prim.Native.Nat.{◌-◌}
use Rattle.paint.proofs.Along.{Along}
use Rattle.paint.proofs.Row.paint_uncovered.Given as goal

abbrev pub invariant-loop-k : goal.invariant-loop-k
invariant-loop-k l = Along l.initial.dst l.initial.map l.self 0 l.n l.k l.dst l.map l.given

abbrev pub decreases-loop-k : goal.decreases-loop-k
decreases-loop-k l = l.n - l.k
