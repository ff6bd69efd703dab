-- `entries::has_letter` meets its contract.
use borrow.Author.Rules.{rules}
use Rattle.format.specs.Entry.{has_letter}
use Rattle.format.proofs.Flags.{flags}
use Rattle.entries.proofs.has_letter.Goals as goal

pub dimension_place-requires : goal.dimension_place-requires
unfolding has_letter
dimension_place-requires c = search rules

pub letter_at-requires : goal.letter_at-requires
unfolding has_letter
letter_at-requires c = search rules

pub returns-then-letter_at-x : goal.returns-then-letter_at-x
unfolding has_letter
returns-then-letter_at-x c = rw (← c.dimension_place.ensures) (search flags depth 8)

pub returns : goal.returns
unfolding has_letter
returns c = rw (← c.dimension_place.ensures) (search flags depth 8)
