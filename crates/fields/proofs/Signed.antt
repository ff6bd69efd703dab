-- A signed number of 32 bits plus 2^31, as the code computes it in 64 bits. Assumes nothing.
use Prim.Native.Nat.{suc, ◌^◌, ◌≤◌, ◌<◌}
use mathlib.Core.Path.{◌≡◌, refl}
use native.Mathlib.Omega.{arith}
use lib.IntN.{ℤ, pos, negsuc, ◌+ℤ◌}
use borrow.Author.Tests.{le-ltb}
use mir.Syntax.{w32, w64}
use mir.Val.{SFits, to_z, of_z}
use mir.Facts.{to_z-of_z}
use Rattle.format.specs.Bytes.{shifted}

pub wider : (x : ℤ) → SFits w32 x → SFits w64 x
wider x h = record { sfits = omega (arith, h.sfits) }

plus : (x : ℤ) → SFits w32 x → x +ℤ pos 2147483648 ≡ pos (shifted x)
plus (pos n) h = refl
plus (negsuc n) h = let l : suc n ≤ 2147483648 = omega (arith, h.sfits) in rw (le-ltb 2147483648 (suc n) l)

pub shifted-small : (x : ℤ) → SFits w32 x → shifted x < 2 ^ 32
shifted-small (pos n) h = omega (arith, h.sfits)
shifted-small (negsuc n) h = omega arith

-- read through 32 and then 64 bits
pub read-plus : (x : ℤ) → SFits w32 x → to_z w64 (of_z w64 (to_z w32 (of_z w32 x))) +ℤ pos 2147483648 ≡ pos (shifted x)
read-plus x h = rw (to_z-of_z h, to_z-of_z (wider x h)) (plus x h)

pub sum_fits : (x : ℤ) → SFits w32 x → SFits w64 (pos (shifted x))
sum_fits x h = record { sfits = omega (arith, shifted-small x h) }
