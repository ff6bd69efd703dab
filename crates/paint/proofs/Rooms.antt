-- Room for a row is room for its first pixels, and stays while the lengths do.
use mathlib.Core.Path.{◌≡◌}
use Prim.Native.Nat.{ℕ, ◌≤◌}
use native.Mathlib.Nat.{mul-le-mul_right}
use native.Mathlib.Omega.{arith}
use mathlib.Core.List.{List}
use Rattle.std.specs.Prelude.{Option, Some, None, IfSome}
use lib.ListN.{length}
use Rattle.paint.specs.declared.MaskLine.{MaskLine}
use Rattle.paint.specs.declared.Row.{Row}
use Rattle.paint.specs.RowPainting.{LineRoom, RowRoom}

mask-less : (k : Option MaskLine) {j n : ℕ} → j ≤ n → IfSome k (λ q. LineRoom q n) → IfSome k (λ q. LineRoom q j)
mask-less (Some q) l r = record { bits = r.bits; columns = omega arith }
mask-less None l r = r

pub room-less : {d m : List ℕ} {row : Row} {n : ℕ} → RowRoom d m row n → {d' m' : List ℕ} {j : ℕ} → j ≤ n
    → length d' ≡ length d → length m' ≡ length m → RowRoom d' m' row j
room-less {row = row} r l e f =
    let h = mul-le-mul_right row.bytes l in
    record { bytes = r.bytes; target = omega arith; source = omega arith; bits = omega arith; mask = mask-less row.mask l r.mask; number = omega arith }
