-- `entries::head_bad` meets its contract.
use Prim.Native.Nat.{◌<◌, ◌≤◌}
use mathlib.Core.Path.{◌≡◌}
use native.Mathlib.Omega.{arith}
use Rattle.format.specs.Entry.{head_bad}
use Rattle.format.specs.Names.{mark_tile}
use Rattle.format.proofs.Flags.{flags}
use Rattle.entries.proofs.head_bad.Goals as goal

pub returns-then-not-same_at : goal.returns-then-not-same_at
unfolding head_bad mark_tile
returns-then-not-same_at c = search flags depth 8

pub returns-then-n-eq0 : goal.returns-then-n-eq0
unfolding head_bad mark_tile
returns-then-n-eq0 c = let h : c.dimension_count-n.result ≡ 0 = omega arith in search flags depth 8

pub returns-then-n-gt16 : goal.returns-then-n-gt16
unfolding head_bad mark_tile
returns-then-n-gt16 c = let h : 16 < c.dimension_count-n.result = omega arith in search flags depth 8

pub returns : goal.returns
unfolding head_bad mark_tile
returns c = let h : c.dimension_count-n.result ≤ 16 = omega arith in search flags depth 8
