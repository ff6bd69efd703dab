use mathlib.Core.Path.{◌≡◌}
use Prim.Native.Nat.{◌*◌}
use lib.Dec.{leb}
use Rattle.plane.specs.Paint.{mark}
use Rattle.bits.proofs.set_whole.Given as goal

abbrev pub invariant-loop-i : goal.invariant-loop-i
invariant-loop-i l = l.map ≡ mark (8 * l.i) (λ q. leb (8 * l.k) q) l.initial.map
