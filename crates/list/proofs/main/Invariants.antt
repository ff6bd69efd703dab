use Rattle.std.proofs.Common.{◌-◌, ◌≤◌}
use Rattle.list.proofs.main.Given as goal

abbrev pub invariant-loop-n : goal.invariant-loop-n
invariant-loop-n l = l.n ≤ 65568

abbrev pub decreases-loop-n : goal.decreases-loop-n
decreases-loop-n l = 65568 - l.n
