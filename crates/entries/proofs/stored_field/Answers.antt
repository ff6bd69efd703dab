-- `entries::stored_field` meets its contract.
use borrow.Author.Rules.{rules}
use Rattle.format.specs.Entry.{stored_field}
use Rattle.entries.proofs.stored_field.Goals as goal

pub overflow_add-d : goal.overflow_add-d
unfolding stored_field
overflow_add-d c = search rules

pub u32_at-requires : goal.u32_at-requires
unfolding stored_field
u32_at-requires c = search rules

pub returns : goal.returns
unfolding stored_field
returns c = search rules
