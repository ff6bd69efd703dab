-- `entries::letter_place` meets its contract.
use native.Mathlib.Omega.{arith}
use borrow.Author.Rules.{rules}
use Rattle.format.specs.Entry.{next_entry, letter_place}
use Rattle.entries.proofs.EntryLaws.{index-within}
use Rattle.entries.proofs.letter_place.Goals as goal

pub letter_index-requires : goal.letter_index-requires
unfolding next_entry letter_place
letter_index-requires c = search rules

pub dimension_place-requires : goal.dimension_place-requires
unfolding next_entry letter_place
dimension_place-requires c = omega (arith, index-within c.args.s.now c.args.e c.args.x)

pub returns : goal.returns
unfolding next_entry letter_place
returns c = omega arith
