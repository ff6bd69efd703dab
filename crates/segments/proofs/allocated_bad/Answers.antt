-- `segments::allocated_bad` meets its contract.
use mathlib.Core.Path.{◌≡◌}
use Prim.Native.Nat.{◌≤◌, ◌%◌, ◌<◌}
use native.Mathlib.Omega.{arith}
use Rattle.format.proofs.Flags.{flags}
use Rattle.format.specs.Segments.{allocated_bad}
use Rattle.segments.proofs.Leaves.{whole-yes, whole-no}
use Rattle.segments.proofs.allocated_bad.Goals as goal

pub returns-then-allocated-ge9223372036854775808 : goal.returns-then-allocated-ge9223372036854775808
unfolding allocated_bad
returns-then-allocated-ge9223372036854775808 c = let h : 9223372036854775808 ≤ c.allocated_at-allocated.result = omega arith in search (flags, whole-yes, whole-no) depth 8

pub returns-then-over-ne0 : goal.returns-then-over-ne0
unfolding allocated_bad
returns-then-over-ne0 c = let h : (c.allocated_at-allocated.result % 32 ≡ 0) → ⊥ = λ e. omega arith in search (flags, whole-yes, whole-no) depth 8

pub returns : goal.returns
unfolding allocated_bad
returns c = let h : c.allocated_at-allocated.result < 9223372036854775808 = omega arith in search (flags, whole-yes) depth 8
