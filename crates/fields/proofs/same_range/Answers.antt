-- `fields::same_range` meets its contract.
use mathlib.Core.Path.{◌≡◌}
use native.Mathlib.Omega.{arith}
use Rattle.format.specs.Bytes.{same_range}
use Rattle.fields.proofs.Equal.{none-joined, one-joined, or-between, or-between'}
use Rattle.fields.proofs.same_range.Goals as goal

pub loop-i-init : goal.loop-i-init
loop-i-init c = none-joined _ _

pub loop-i-preserved : goal.loop-i-preserved
loop-i-preserved c = one-joined _ _ _ _ _ c.loop-i.invariant (search (or-between, or-between'))

pub returns : goal.returns
unfolding same_range
returns c = let e : c.loop-i.i ≡ c.args.n = omega arith in rw (← e) c.loop-i.invariant.same
