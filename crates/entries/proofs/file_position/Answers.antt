-- `entries::file_position` meets its contract.
use borrow.Author.Rules.{rules}
use Rattle.format.specs.Entry.{file_position}
use Rattle.entries.proofs.file_position.Goals as goal

pub overflow_add-e : goal.overflow_add-e
unfolding file_position
overflow_add-e c = search rules

pub u64_at-requires : goal.u64_at-requires
unfolding file_position
u64_at-requires c = search rules

pub returns : goal.returns
unfolding file_position
returns c = search rules
