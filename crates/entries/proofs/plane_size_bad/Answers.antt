-- `entries::plane_size_bad` meets its contract.
use Prim.Native.Nat.{◌≤◌, ◌<◌}
use mathlib.Core.Path.{◌≡◌}
use native.Mathlib.Omega.{arith}
use Rattle.format.specs.Entry.{plane_size_bad}
use Rattle.format.proofs.Flags.{flags}
use Rattle.entries.proofs.plane_size_bad.Goals as goal

pub returns-then-size-eq0 : goal.returns-then-size-eq0
unfolding plane_size_bad
returns-then-size-eq0 c = let h : c.size_at-size.result ≡ 0 = omega arith in search flags depth 8

pub returns-then-size-ge2147483648 : goal.returns-then-size-ge2147483648
unfolding plane_size_bad
returns-then-size-ge2147483648 c = let h : 2147483648 ≤ c.size_at-size.result = omega arith in search flags depth 8

pub returns : goal.returns
unfolding plane_size_bad
returns c = let h : c.size_at-size.result < 2147483648 = omega arith in search flags depth 8
