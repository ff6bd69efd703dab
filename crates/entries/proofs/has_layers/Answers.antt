-- `entries::has_layers` meets its contract.
use Prim.Native.Nat.{◌≤◌, ◌<◌}
use native.Mathlib.Omega.{arith}
use Rattle.format.specs.Entry.{has_layers}
use Rattle.format.proofs.Flags.{flags}
use Rattle.entries.proofs.has_layers.Goals as goal

pub returns-then-is_plane : goal.returns-then-is_plane
unfolding has_layers
returns-then-is_plane c = rw (← c.dimension_place-d.ensures, ← c.letter_at.ensures.0) (search flags depth 8)

pub returns-then-size_at-gt1 : goal.returns-then-size_at-gt1
unfolding has_layers
returns-then-size_at-gt1 c =
    let h : 1 < c.size_at.result = omega arith in
    rw (← c.dimension_place-d.ensures, ← c.letter_at.ensures.0, ← c.size_at.ensures.0) (search flags depth 8)

pub returns : goal.returns
unfolding has_layers
returns c =
    let h : c.size_at.result ≤ 1 = omega arith in
    rw (← c.dimension_place-d.ensures, ← c.letter_at.ensures.0, ← c.size_at.ensures.0) (search flags depth 8)
