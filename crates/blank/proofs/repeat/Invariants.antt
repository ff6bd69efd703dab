use Prim.Native.Nat.{◌-◌}
use Rattle.blank.proofs.Repeats.{Repeating}
use Rattle.blank.proofs.repeat.Given as goal

abbrev pub invariant-loop-k : goal.invariant-loop-k
invariant-loop-k l = Repeating l.initial.dst l.b l.end l.dst l.w l.k

abbrev pub decreases-loop-k : goal.decreases-loop-k
decreases-loop-k l = l.end - l.k
