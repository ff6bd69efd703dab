-- `attachments::attachment_directory_bad` meets its contract.
use Prim.Native.Nat.{◌+◌, ◌*◌, ◌<◌, ◌≤◌}
use native.Mathlib.Omega.{arith}
use borrow.Author.Tests.{le-ltb, lt-leb}
use Rattle.format.proofs.Flags.{flags, any-skip, any_none}
use Rattle.format.specs.Attachments.{attachment_directory_bad}
use Rattle.attachments.proofs.attachment_directory_bad.Goals as goal

pub returns-then-room-lt256 : goal.returns-then-room-lt256
unfolding attachment_directory_bad
returns-then-room-lt256 c = let h : c.room_at-room.result < 256 = omega arith in search flags depth 8

pub returns-then-n-ge2147483648 : goal.returns-then-n-ge2147483648
unfolding attachment_directory_bad
returns-then-n-ge2147483648 c = let h : 2147483648 ≤ c.attachment_entry_count-n.result = omega arith in search flags depth 8

pub returns-then-n-gt4096 : goal.returns-then-n-gt4096
unfolding attachment_directory_bad
returns-then-n-gt4096 c = let h : 4096 < c.attachment_entry_count-n.result = omega arith in search flags depth 8

pub returns-then-room-n : goal.returns-then-room-n
unfolding attachment_directory_bad
returns-then-room-n c =
    let n = c.attachment_entry_count-n in
    let h : c.room_at-room.result < 256 + 128 * n.result = omega arith in
    rw (← n.ensures.0) (search flags depth 8)

pub returns : goal.returns
unfolding attachment_directory_bad
returns c =
    let few : c.attachment_entry_count-n.result ≤ 4096 = omega arith in
    let h : 256 + 128 * c.attachment_entry_count-n.result ≤ c.room_at-room.result = omega arith in
    rw (← c.attachment_entry_count-n.ensures.0, ← c.room_at-room.ensures) (search (any-skip, any_none, le-ltb, lt-leb) depth 8)
