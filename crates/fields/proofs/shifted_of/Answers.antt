-- `fields::shifted_of` meets its contract.
use native.Mathlib.Omega.{arith}
use mathlib.Core.Path.{refl}
use mir.Facts.{to_z-of_z}
use Rattle.fields.proofs.Signed.{wider, read-plus, shifted-small, sum_fits}
use Rattle.fields.proofs.shifted_of.Goals as goal

pub overflow_cast-result : goal.overflow_cast-result
overflow_cast-result c = rw (to_z-of_z c.ranges.x) (wider _ c.ranges.x)

pub overflow_add-result : goal.overflow_add-result
overflow_add-result c = rw (read-plus _ c.ranges.x) (sum_fits _ c.ranges.x)

pub overflow_cast-result-2 : goal.overflow_cast-result-2
overflow_cast-result-2 c =
    rw (read-plus _ c.ranges.x, to_z-of_z (sum_fits _ c.ranges.x))
    (tt, record { fits = omega (arith, shifted-small _ c.ranges.x) })

pub returns : goal.returns
returns c = rw (read-plus _ c.ranges.x, to_z-of_z (sum_fits _ c.ranges.x)) (refl, shifted-small _ c.ranges.x)
