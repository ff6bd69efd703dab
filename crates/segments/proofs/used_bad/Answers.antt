-- `segments::used_bad` meets its contract.
use Prim.Native.Nat.{◌≤◌, ◌<◌}
use native.Mathlib.Omega.{arith}
use Rattle.format.proofs.Flags.{flags}
use Rattle.format.specs.Segments.{used_bad}
use Rattle.segments.proofs.Leaves.{lt_both, le-both}
use Rattle.segments.proofs.used_bad.Goals as goal

pub returns-then-used-ge9223372036854775808 : goal.returns-then-used-ge9223372036854775808
unfolding used_bad
returns-then-used-ge9223372036854775808 c = let h : 9223372036854775808 ≤ c.used_at-used.result = omega arith in search (flags, lt_both, le-both) depth 8

pub returns-then-allocated_at-used : goal.returns-then-allocated_at-used
unfolding used_bad
returns-then-allocated_at-used c =
    let h : c.allocated_at.result < c.used_at-used.result = omega arith in
    search (flags, lt_both, le-both) depth 8

pub returns : goal.returns
unfolding used_bad
returns c = let h : c.used_at-used.result < 9223372036854775808 = omega arith in search (flags, le-both) depth 8
