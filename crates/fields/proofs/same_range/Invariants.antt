use Prim.Native.Nat.{◌+◌, ◌-◌, ◌≤◌}
use lib.ListN.{get_or}
use Rattle.fields.proofs.Equal.{Joined}
use Rattle.fields.proofs.same_range.Given as goal

abbrev pub invariant-loop-i : goal.invariant-loop-i
invariant-loop-i l = Joined (λ k. get_or l.s (l.from + k) 0) (λ k. get_or l.t (l.to + k) 0) l.i l.off
