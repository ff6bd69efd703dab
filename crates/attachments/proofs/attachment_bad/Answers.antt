-- `attachments::attachment_bad` meets its contract.
use Prim.Native.Nat.{◌<◌}
use native.Mathlib.Omega.{arith}
use Rattle.format.proofs.Flags.{flags}
use Rattle.format.specs.Attachments.{attachment_bad}
use Rattle.attachments.proofs.attachment_bad.Goals as goal

pub returns-then-room_at-lt256 : goal.returns-then-room_at-lt256
unfolding attachment_bad
returns-then-room_at-lt256 c = let h : c.room_at.result < 256 = omega arith in search flags depth 8

pub returns-then-not-same_range : goal.returns-then-not-same_range
unfolding attachment_bad
returns-then-not-same_range c = search flags depth 8

pub returns : goal.returns
unfolding attachment_bad
returns c = search flags depth 8
