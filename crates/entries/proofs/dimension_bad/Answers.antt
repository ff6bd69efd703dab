-- `entries::dimension_bad` meets its contract.
use Prim.Native.Nat.{◌≤◌, ◌<◌}
use native.Mathlib.Omega.{arith}
use borrow.Author.Rules.{rules}
use Rattle.format.specs.Entry.{dimension_bad}
use Rattle.format.proofs.Flags.{flags, any-later}
use Rattle.entries.proofs.dimension_bad.Goals as goal

pub letter_bad-requires : goal.letter_bad-requires
unfolding dimension_bad
letter_bad-requires c = search rules

pub returns-then-letter_bad : goal.returns-then-letter_bad
unfolding dimension_bad
returns-then-letter_bad c = search flags depth 8

pub too_far-requires : goal.too_far-requires
unfolding dimension_bad
too_far-requires c = search rules

pub returns-then-too_far : goal.returns-then-too_far
unfolding dimension_bad
returns-then-too_far c = search flags depth 8

pub stored_field-requires : goal.stored_field-requires
unfolding dimension_bad
stored_field-requires c = search rules

pub returns-then-stored_field-ge2147483648 : goal.returns-then-stored_field-ge2147483648
unfolding dimension_bad
returns-then-stored_field-ge2147483648 c = let h : 2147483648 ≤ c.stored_field.result = omega arith in search flags depth 8

pub size_bad-requires : goal.size_bad-requires
unfolding dimension_bad
size_bad-requires c = search rules

pub returns-then-size_bad : goal.returns-then-size_bad
unfolding dimension_bad
returns-then-size_bad c = any-later _ _ (any-later _ _ (any-later _ _ (search flags depth 8)))

pub returns : goal.returns
unfolding dimension_bad
returns c = let h : c.stored_field.result < 2147483648 = omega arith in search flags depth 8
