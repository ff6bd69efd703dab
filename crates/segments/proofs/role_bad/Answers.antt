-- `segments::role_bad` meets its contract.
use Prim.Native.Nat.{◌<◌}
use native.Mathlib.Omega.{arith}
use Rattle.format.proofs.Flags.{flags}
use Rattle.format.specs.Segments.{role_bad}
use Rattle.segments.proofs.role_bad.Goals as goal

pub returns-then-p-ne0 : goal.returns-then-p-ne0
unfolding role_bad
returns-then-p-ne0 c = search flags depth 8

pub returns-then-not-file : goal.returns-then-not-file
unfolding role_bad
returns-then-not-file c = search flags depth 8

pub returns-then-room_at-lt80 : goal.returns-then-room_at-lt80
unfolding role_bad
returns-then-room_at-lt80 c = let h : c.room_at.result < 80 = omega arith in search flags depth 8

pub returns : goal.returns
unfolding role_bad
returns c = search flags depth 8
