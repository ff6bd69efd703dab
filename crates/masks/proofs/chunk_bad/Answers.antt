-- `masks::chunk_bad` meets its contract.
use Prim.Native.Nat.{◌+◌, ◌<◌, ◌≤◌}
use native.Mathlib.Omega.{arith}
use borrow.Author.Tests.{lt-ltb}
use Rattle.format.proofs.Flags.{flags}
use Rattle.format.specs.Masks.{chunk_bad, next_chunk}
use Rattle.masks.proofs.MaskLaws.{any_at}
use Rattle.masks.proofs.chunk_bad.Goals as goal

pub returns-then-end-c : goal.returns-then-end-c
unfolding chunk_bad next_chunk
returns-then-end-c c = let a = c.args in let short : a.end < a.c + 20 = omega arith in any_at _ 0 (lt-ltb _ _ short)

pub chunk_size-size-requires : goal.chunk_size-size-requires
chunk_size-size-requires c = omega arith

pub returns-then-size-ge2147483648 : goal.returns-then-size-ge2147483648
unfolding chunk_bad next_chunk
returns-then-size-ge2147483648 c = let h : 2147483648 ≤ c.chunk_size-size.result = omega arith in search flags depth 8

pub returns-then-end-c-2 : goal.returns-then-end-c-2
unfolding chunk_bad next_chunk
returns-then-end-c-2 c =
    let a = c.args in
    let h : a.end < a.c + 20 + c.chunk_size-size.result = omega arith in
    rw (← c.chunk_size-size.ensures.0) (search flags depth 8)

pub returns : goal.returns
unfolding chunk_bad next_chunk
returns c =
    let a = c.args in
    let h : a.c + 20 + c.chunk_size-size.result ≤ a.end = omega arith in
    rw (← c.chunk_size-size.ensures.0) (search flags depth 8)
