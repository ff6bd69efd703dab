-- `attachments::attachment_data_bad` meets its contract.
use Prim.Native.Nat.{◌+◌, ◌<◌, ◌≤◌}
use native.Mathlib.Omega.{arith}
use Rattle.format.proofs.Flags.{flags}
use Rattle.format.specs.Attachments.{attachment_data_bad}
use Rattle.attachments.proofs.attachment_data_bad.Goals as goal

pub returns-then-n-ge2147483648 : goal.returns-then-n-ge2147483648
unfolding attachment_data_bad
returns-then-n-ge2147483648 c = let h : 2147483648 ≤ c.attachment_data_size-n.result = omega arith in search flags depth 8

pub returns-then-room_at-n : goal.returns-then-room_at-n
unfolding attachment_data_bad
returns-then-room_at-n c =
    let n = c.attachment_data_size-n in
    let h : c.room_at.result < 256 + n.result = omega arith in
    rw (← n.ensures.0) (search flags depth 8)

pub returns : goal.returns
unfolding attachment_data_bad
returns c =
    let n = c.attachment_data_size-n in
    let h : 256 + n.result ≤ c.room_at.result = omega arith in
    let positive : n.result < 2147483648 = omega arith in
    rw (← n.ensures.0) (search flags depth 8)
