-- `Row::paint_pixels` meets its contract.
use mathlib.Core.Path.{refl}
use native.Mathlib.Omega.{arith}
use native.Mathlib.Numerals.{lt-add-one, add-one-le}
use Rattle.paint.proofs.Along.{lent-bytes, along-start, along-sum, along-next, along-byte}
use Rattle.paint.proofs.Row.paint_pixels.Goals as goal

pub loop-k-init : goal.loop-k-init
loop-k-init c = (refl, search (along-start, lent-bytes))

pub overflow_add-given : goal.overflow_add-given
overflow_add-given c = search (along-sum, lt-add-one, add-one-le)

pub loop-k-preserved : goal.loop-k-preserved
loop-k-preserved c = (omega arith, search (along-next, lt-add-one, add-one-le))

pub overflow_add-a : goal.overflow_add-a
overflow_add-a c = search along-byte
