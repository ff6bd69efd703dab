use mathlib.Core.Path.{◌≡◌}
use Prim.Native.Nat.{◌+◌}
use Rattle.copies.specs.Copied.{copied}
use Rattle.copies.proofs.copy_few.Given as goal

abbrev pub invariant-loop-i : goal.invariant-loop-i
invariant-loop-i l = l.dst ≡ copied l.initial.dst l.src l.a (l.a + l.i)
