-- `masks::mask_valid` meets its contract.
use Prim.Native.Nat.{◌+◌, ◌*◌, ◌/◌, ◌<◌}
use native.Mathlib.Omega.{arith}
use lib.ListN.{length}
use borrow.Author.Rules.{rules}
use Rattle.format.specs.Masks.{mask_valid}
use Rattle.format.proofs.Flags.{flags}
use Rattle.masks.proofs.MaskLaws.{mask_fits, byte-read, bit-read}
use Rattle.masks.proofs.mask_valid.Goals as goal

-- the byte that is read lies in the slice
byte-in : (c : goal.After-mask_stride)
    → let a = c.args in
    a.c + 36 + a.y * c.mask_stride.result + a.x / 8 < length a.s.now
byte-in c = search byte-read

pub mask_width-requires : goal.mask_width-requires
unfolding mask_valid
mask_width-requires c = omega (arith, (mask_fits _ _ c.requires.0).fields)

pub returns-then-mask_width-x : goal.returns-then-mask_width-x
unfolding mask_valid
returns-then-mask_width-x c = search flags depth 8

pub mask_height-requires : goal.mask_height-requires
unfolding mask_valid
mask_height-requires c = omega (arith, (mask_fits _ _ c.requires.0).fields)

pub returns-then-mask_height-y : goal.returns-then-mask_height-y
unfolding mask_valid
returns-then-mask_height-y c = search flags depth 8

pub mask_stride-requires : goal.mask_stride-requires
unfolding mask_valid
mask_stride-requires c = omega (arith, (mask_fits _ _ c.requires.0).fields)

pub overflow_mul-line : goal.overflow_mul-line
unfolding mask_valid
overflow_mul-line c = omega (arith, byte-in c)

pub overflow_add-c : goal.overflow_add-c
unfolding mask_valid
overflow_add-c c = search rules

pub overflow_add-c-2 : goal.overflow_add-c-2
unfolding mask_valid
overflow_add-c-2 c = omega (arith, byte-in c)

pub overflow_add-c-3 : goal.overflow_add-c-3
unfolding mask_valid
overflow_add-c-3 c = omega (arith, byte-in c)

pub byte_at-byte-requires : goal.byte_at-byte-requires
unfolding mask_valid
byte_at-byte-requires c = byte-in c

pub overflow_sub-result : goal.overflow_sub-result
unfolding mask_valid
overflow_sub-result c = search rules

pub overflow_shr-result : goal.overflow_shr-result
unfolding mask_valid
overflow_shr-result c = search rules

pub returns : goal.returns
unfolding mask_valid
returns c = search (flags, bit-read) depth 8
