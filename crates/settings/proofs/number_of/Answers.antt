-- `settings::number_of` meets its contract.
use native.Mathlib.Omega.{arith}
use Rattle.settings.proofs.Numbers.{spelling-start, spelling-small, byte_low, byte-high, spelling-next, spelling-end}
use Rattle.settings.proofs.number_of.Goals as goal

pub loop-d-init : goal.loop-d-init
loop-d-init c = spelling-start _ c.requires.0

pub overflow_mul-n : goal.overflow_mul-n
overflow_mul-n c = omega (arith, spelling-small _ _ _ c.loop-d.invariant c.requires.1)

pub overflow_sub-d : goal.overflow_sub-d
overflow_sub-d c = byte_low _ _ _ c.loop-d.invariant c.loop-d-test.true

pub overflow_add-n : goal.overflow_add-n
overflow_add-n c =
    omega (arith, spelling-small _ _ _ c.loop-d.invariant c.requires.1, byte-high _ _ _ c.loop-d.invariant c.loop-d-test.true, c.from.ensures)

pub loop-d-preserved : goal.loop-d-preserved
loop-d-preserved c = spelling-next _ _ _ c.loop-d.invariant c.loop-d-test.true _ c.from.ensures

pub returns : goal.returns
returns c = (spelling-end _ _ _ c.loop-d.invariant c.loop-d-test.false, spelling-small _ _ _ c.loop-d.invariant c.requires.1)
