use mathlib.Core.Path.{◌≡◌}
use Prim.Native.Nat.{◌*◌}
use Rattle.paint.proofs.Along.{Along}
use Rattle.paint.proofs.Row.paint_pixels.Given as goal

abbrev pub invariant-loop-k : goal.invariant-loop-k
invariant-loop-k l = (l.a ≡ l.k * l.self.bytes) × Along l.initial.dst l.initial.map l.self l.i l.j l.k l.dst l.map l.given
