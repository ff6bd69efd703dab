use Prim.Native.Nat.{◌-◌}
use lib.ListN.{length}
use Rattle.segments.proofs.Walking.{Walking}
use Rattle.segments.proofs.walk_segments.Given as goal

abbrev pub invariant-loop-p : goal.invariant-loop-p
invariant-loop-p l = Walking l.s l.initial.table 8192 l.len l.table l.p l.k

abbrev pub decreases-loop-p : goal.decreases-loop-p
decreases-loop-p l = length l.s - l.p
