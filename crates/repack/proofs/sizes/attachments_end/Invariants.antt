use mathlib.Core.Path.{◌≡◌}
use Prim.Native.Nat.{◌≤◌}
use Rattle.repacked.specs.NewFile.{new_attachment}
use Rattle.repack.proofs.sizes.attachments_end.Given as goal

abbrev pub invariant-loop-k : goal.invariant-loop-k
invariant-loop-k l = (l.k ≤ l.n) × (l.at ≡ new_attachment l.s l.k)
