-- `directory::directory_bad` meets its contract.
use Prim.Native.Nat.{◌<◌, ◌≤◌}
use native.Mathlib.Omega.{arith}
use Rattle.format.proofs.Flags.{flags}
use Rattle.format.specs.Directory.{directory_bad}
use Rattle.directory.proofs.directory_bad.Goals as goal

pub returns-then-room_at-lt128 : goal.returns-then-room_at-lt128
unfolding directory_bad
returns-then-room_at-lt128 c = let h : c.room_at.result < 128 = omega arith in search flags depth 8

pub returns-then-n-ge2147483648 : goal.returns-then-n-ge2147483648
unfolding directory_bad
returns-then-n-ge2147483648 c = let h : 2147483648 ≤ c.entry_count-n.result = omega arith in search flags depth 8

pub returns-then-n-gt4096 : goal.returns-then-n-gt4096
unfolding directory_bad
returns-then-n-gt4096 c = let h : 4096 < c.entry_count-n.result = omega arith in search flags depth 8

pub returns : goal.returns
unfolding directory_bad
returns c =
    let n = c.entry_count-n.result in
    let few : n ≤ 4096 = omega arith in
    let positive : n < 2147483648 = omega arith in
    let fits : 128 ≤ c.room_at.result = omega arith in
    search flags depth 8
