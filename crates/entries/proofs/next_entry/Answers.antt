-- `entries::next_entry` meets its contract.
use borrow.Author.Rules.{rules}
use Rattle.format.specs.Entry.{next_entry}
use Rattle.entries.proofs.next_entry.Goals as goal

pub dimension_count-requires : goal.dimension_count-requires
unfolding next_entry
dimension_count-requires c = search rules

pub dimension_place-requires : goal.dimension_place-requires
unfolding next_entry
dimension_place-requires c = search rules

pub returns : goal.returns
unfolding next_entry
returns c = search rules
