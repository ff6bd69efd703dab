-- `fields::float_of` meets its contract.
use Prim.Native.Nat.{◌%◌}
use mathlib.Core.Path.{◌≡◌, refl, sym, ◌∙◌, subst}
use mathlib.Core.Bool.{Bool, true, false}
use borrow.Author.Tests.{lt-ltb, le-ltb}
use lib.Ieee.{Float, nan, inf, fin, binary32, is_nan, of_bits, div, of_fields, odd}
use lib.Ieee.Bits.{nan_bits_above, nan_bits_is}
use Rattle.fields.proofs.float_of.Goals as goal

abbrev tag : Bool → Type 0
tag true = ⊥
tag false = Unit {0}

clash : ◌≡◌ {A = Bool} false true → ⊥
clash h = subst tag h tt

only_nan : (v : Float) → is_nan v ≡ true → nan ≡ v
unfolding is_nan
only_nan nan h = refl
only_nan (inf s) h = absurd (clash h)
only_nan (fin s m e) h = absurd (clash h)

pub returns-then-low-gt2139095040 : goal.returns-then-low-gt2139095040
unfolding div of_bits of_fields odd
returns-then-low-gt2139095040 c =
    let b = c.args.bits in
    only_nan (of_bits binary32 b) (sym (nan_bits_is binary32 b) ∙ nan_bits_above binary32 b ∙ lt-ltb _ _ c.if-low-gt2139095040.true)

pub float_from_bits-result : goal.float_from_bits-result
float_from_bits-result c = rw (nan_bits_above binary32 c.args.bits, le-ltb 2139095040 (c.args.bits % 2147483648) c.if-low-gt2139095040.false) tt
