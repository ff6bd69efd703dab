use Prim.Native.Nat.{◌-◌}
use Rattle.masks.proofs.ChunkLaws.{Judging}
use Rattle.masks.proofs.judge_chunks.Given as goal

abbrev pub invariant-loop-c : goal.invariant-loop-c
invariant-loop-c l = Judging l.s l.a l.end l.seen l.c

abbrev pub decreases-loop-c : goal.decreases-loop-c
decreases-loop-c l = l.end - l.c
