-- `masks::mask_bad` meets its contract.
use Prim.Native.Nat.{ℕ, ◌+◌, ◌*◌, ◌≤◌, ◌<◌}
use mathlib.Core.Path.{◌≡◌}
use mathlib.Core.Bool.{true, false}
use native.Mathlib.Omega.{arith}
use lib.Dec.{ltb}
use borrow.Author.Tests.{lt-ltb, le-ltb}
use Rattle.format.proofs.Flags.{flags, any-skip, any_none, lt_no, le-no', not-is-false, eq_yes}
use Rattle.format.specs.Masks.{mask_bad, representation}
use Rattle.fields.proofs.Products.{below}
use Rattle.masks.proofs.MaskLaws.{any_at}
use Rattle.masks.proofs.mask_bad.Goals as goal

-- stride r and width or height q were read, and the chunk's size z
module _ (r a q b : ℕ) (e : r ≡ a) (f : q ≡ b) where
  columns-over : r * 8 < q → ltb (a * 8) b ≡ true
  columns-over h = rw (← e, ← f) (lt-ltb (r * 8) q h)

  columns-in : q ≤ r * 8 → ltb (a * 8) b ≡ false
  columns-in h = rw (← e, ← f) (le-ltb (r * 8) q h)

  module _ (z n : ℕ) (g : z ≡ n) where
    lines-over : z < 16 + r * q → ltb n (16 + a * b) ≡ true
    lines-over h = rw (← e, ← f, ← g) (lt-ltb z (16 + r * q) h)

    lines-in : 16 + r * q ≤ z → ltb n (16 + a * b) ≡ false
    lines-in h = rw (← e, ← f, ← g) (le-ltb z (16 + r * q) h)

pub returns-then-size-lt16 : goal.returns-then-size-lt16
unfolding mask_bad representation
returns-then-size-lt16 c = let h : c.chunk_size-size.result < 16 = omega arith in search flags depth 9

pub returns-then-width-ge2147483648 : goal.returns-then-width-ge2147483648
unfolding mask_bad representation
returns-then-width-ge2147483648 c = let h : 2147483648 ≤ c.mask_width-width.result = omega arith in search flags depth 9

pub returns-then-height-ge2147483648 : goal.returns-then-height-ge2147483648
unfolding mask_bad representation
returns-then-height-ge2147483648 c = let h : 2147483648 ≤ c.mask_height-height.result = omega arith in search flags depth 9

pub returns-then-u32_at-ne0 : goal.returns-then-u32_at-ne0
unfolding mask_bad representation
returns-then-u32_at-ne0 c = let h : (c.u32_at.result ≡ 0) → ⊥ = λ e. omega arith in search flags depth 9

pub returns-then-stride-ge2147483648 : goal.returns-then-stride-ge2147483648
unfolding mask_bad representation
returns-then-stride-ge2147483648 c = let h : 2147483648 ≤ c.mask_stride-stride.result = omega arith in search flags depth 9

pub returns-then-stride-width : goal.returns-then-stride-width
unfolding mask_bad
returns-then-stride-width c = any_at _ 5 (search columns-over)

pub overflow_mul-stride-2 : goal.overflow_mul-stride-2
overflow_mul-stride-2 c = omega (arith, below 31 c.if-stride-ge2147483648.false c.if-height-ge2147483648.false)

pub overflow_add-stride : goal.overflow_add-stride
overflow_add-stride c = omega (arith, below 31 c.if-stride-ge2147483648.false c.if-height-ge2147483648.false)

pub returns-then-size-stride : goal.returns-then-size-stride
unfolding mask_bad representation
returns-then-size-stride c = any_at _ 6 (search lines-over)

pub returns : goal.returns
unfolding mask_bad representation
returns c = search (any-skip, any_none, lt_no, le-no', not-is-false, eq_yes, columns-in, lines-in) depth 10
