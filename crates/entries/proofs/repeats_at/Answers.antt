-- `entries::repeats_at` meets its contract.
use borrow.Author.Rules.{rules}
use Rattle.format.specs.Entry.{repeats}
use Rattle.entries.proofs.repeats_at.Goals as goal

pub dimension_place-requires : goal.dimension_place-requires
unfolding repeats
dimension_place-requires c = search rules

pub letter_at-x-requires : goal.letter_at-x-requires
unfolding repeats
letter_at-x-requires c = search rules

pub holds_below-requires : goal.holds_below-requires
unfolding repeats
holds_below-requires c = search rules

pub returns : goal.returns
unfolding repeats
returns c = rw (← c.dimension_place.ensures, ← c.letter_at-x.ensures.0) c.holds_below.ensures
