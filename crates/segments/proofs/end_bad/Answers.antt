-- `segments::end_bad` meets its contract.
use Prim.Native.Nat.{◌+◌, ◌<◌, ◌≤◌}
use lib.ListN.{length}
use mathlib.Core.Path.{sym}
use native.Mathlib.Omega.{arith}
use borrow.Author.Tests.{lt-ltb, le-ltb}
use Rattle.format.specs.Segments.{end_bad, next_segment}
use Rattle.segments.proofs.end_bad.Goals as goal

pub returns-then-left-allocated_at : goal.returns-then-left-allocated_at
unfolding end_bad next_segment
returns-then-left-allocated_at c =
    let a = c.args in
    let past : length a.s.now < a.p + 32 + c.allocated_at.result = omega arith in
    sym (rw (← c.allocated_at.ensures) (lt-ltb _ _ past))

pub returns : goal.returns
unfolding end_bad next_segment
returns c =
    let a = c.args in
    let within : a.p + 32 + c.allocated_at.result ≤ length a.s.now = omega arith in
    sym (rw (← c.allocated_at.ensures) (le-ltb _ _ within))
