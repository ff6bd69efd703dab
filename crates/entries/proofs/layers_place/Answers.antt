-- `entries::layers_place` meets its contract.
use native.Mathlib.Omega.{arith}
use borrow.Author.Rules.{rules}
use Rattle.format.specs.Entry.{next_entry, layers_place}
use Rattle.entries.proofs.EntryLaws.{layers-index-within}
use Rattle.entries.proofs.layers_place.Goals as goal

pub layers_index-requires : goal.layers_index-requires
unfolding next_entry layers_place
layers_index-requires c = search rules

pub dimension_place-requires : goal.dimension_place-requires
unfolding next_entry layers_place
dimension_place-requires c = omega (arith, layers-index-within c.args.s.now c.args.e)

pub returns : goal.returns
unfolding next_entry layers_place
returns c = omega arith
