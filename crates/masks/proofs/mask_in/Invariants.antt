use Prim.Native.Nat.{◌-◌}
use Rattle.masks.proofs.ChunkLaws.{Seeking}
use Rattle.masks.proofs.mask_in.Given as goal

abbrev pub invariant-loop-c : goal.invariant-loop-c
invariant-loop-c l = Seeking l.s l.a l.end l.c

abbrev pub decreases-loop-c : goal.decreases-loop-c
decreases-loop-c l = l.end - l.c
