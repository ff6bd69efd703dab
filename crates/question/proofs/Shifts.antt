-- A signed number moved on by a count: as a plane coordinate it is the count more, and it stays a number of 32 bits below 2 ^ 32. Assumes nothing.
use Prim.Native.Nat.{ℕ, suc, ◌+◌, ◌-◌, ◌^◌, ◌<◌}
use mathlib.Core.Path.{◌≡◌, refl}
use mathlib.Core.Bool.{Bool, true, false, cond}
use native.Mathlib.Omega.{arith}
use lib.Dec.{ltb}
use lib.IntN.{ℤ, pos, negsuc, ◌+ℤ◌}
use borrow.Author.Tests.{ltb-true, ltb-false}
use Rattle.format.specs.Bytes.{shifted}
use Rattle.question.specs.Demand3.{Int32}

pub shifted-more : (z : ℤ) (c : ℕ) → Int32 z → shifted (z +ℤ pos c) ≡ shifted z + c
shifted-more (pos n) c h = omega arith
shifted-more (negsuc n) c h = go (ltb c (suc n)) refl
  where
    go : (b : Bool) → ltb c (suc n) ≡ b → shifted (cond b (negsuc (suc n - suc c)) (pos (c - suc n))) ≡ 2 ^ 31 - suc n + c
    go true e = omega (arith, ltb-true c (suc n) e)
    go false e = omega (arith, ltb-false c (suc n) e)

pub int32-more : (z : ℤ) (c : ℕ) → Int32 z → shifted z + c < 2 ^ 32 → Int32 (z +ℤ pos c)
int32-more (pos n) c h l = omega arith
int32-more (negsuc n) c h l = go (ltb c (suc n)) refl
  where
    go : (b : Bool) → ltb c (suc n) ≡ b → Int32 (cond b (negsuc (suc n - suc c)) (pos (c - suc n)))
    go true e = omega arith
    go false e = omega (arith, ltb-false c (suc n) e)
