-- `fields::signed_of` meets its contract.
use Prim.Native.Nat.{ℕ, ◌^◌, ◌<◌}
use mathlib.Core.Path.{◌≡◌}
use lib.Dec.{ltb}
use mir.Facts.{to_z-of_z}
use mir.Syntax.{w32}
use mir.Val.{to_z}
use Rattle.std.proofs.Common.{arith}
use Rattle.std.proofs.lemmas.Int.{ints}
use Rattle.format.specs.Bytes.{signed32}
use Rattle.format.proofs.Below.{by_bool}
use Rattle.fields.proofs.signed_of.Goals as goal

-- the library's reading of the bits
read : (x : ℕ) → x < 2 ^ 32 → to_z w32 x ≡ signed32 x
unfolding signed32
read x h = by_bool (ltb x (2 ^ 31)) (λ e. rw e) (λ e. rw e (omega (arith, ints)))

pub returns : goal.returns
returns c = rw (to_z-of_z (record { sfits = c.cast_signed.type_inv }), c.cast_signed.ensures) (read _ c.requires)
