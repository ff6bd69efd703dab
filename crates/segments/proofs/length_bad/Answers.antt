-- `segments::length_bad` meets its contract.
use Prim.Native.Nat.{◌%◌, ◌<◌}
use lib.ListN.{length}
use mathlib.Core.Path.{◌≡◌}
use native.Mathlib.Omega.{arith}
use Rattle.format.proofs.Flags.{flags}
use Rattle.format.specs.Segments.{length_bad}
use Rattle.segments.proofs.length_bad.Goals as goal

pub returns-then-len-eq0 : goal.returns-then-len-eq0
unfolding length_bad
returns-then-len-eq0 c = let h : length c.args.s.now ≡ 0 = omega arith in search flags depth 8

pub returns-then-over-ne0 : goal.returns-then-over-ne0
unfolding length_bad
returns-then-over-ne0 c = let h : (length c.args.s.now % 32 ≡ 0) → ⊥ = λ e. omega arith in search flags depth 8

pub returns-then-len-gt1099511627776 : goal.returns-then-len-gt1099511627776
unfolding length_bad
returns-then-len-gt1099511627776 c = let h : 1099511627776 < length c.args.s.now = omega arith in search flags depth 8

pub returns : goal.returns
unfolding length_bad
returns c = let h : length c.args.s.now % 32 ≡ 0 = omega arith in search flags depth 8
