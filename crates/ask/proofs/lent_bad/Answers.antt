-- `ask::lent_bad` meets its contract.
use Prim.Native.Nat.{◌+◌, ◌*◌, ◌/◌}
use mathlib.Core.Path.{◌≡◌}
use native.Mathlib.Omega.{arith}
use Rattle.format.proofs.Flags.{flags}
use Rattle.question.specs.Question.{lent_bad}
use Rattle.ask.proofs.AskLaws.{area-most, bytes_most}
use Rattle.ask.proofs.lent_bad.Goals as goal

pub overflow_mul-area : goal.overflow_mul-area
overflow_mul-area c = omega (arith, area-most _ c.requires)

pub overflow_mul-area-2 : goal.overflow_mul-area-2
overflow_mul-area-2 c = omega (arith, bytes_most _ _ _ c.requires c.pixel_bytes.ensures)

pub returns-then-target-area : goal.returns-then-target-area
unfolding lent_bad
returns-then-target-area c = rw (← c.pixel_bytes.ensures) (search flags depth 6)

pub returns-else-target-area : goal.returns-else-target-area
unfolding lent_bad
returns-else-target-area c =
    let bytes : c.div_ceil.result ≡ (c.args.f.height * c.args.f.width + 7) / 8 = omega (arith, c.div_ceil.ensures) in
    rw bytes (rw (← c.pixel_bytes.ensures) (search flags depth 6))
