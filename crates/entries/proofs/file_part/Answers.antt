-- `entries::file_part` meets its contract.
use borrow.Author.Rules.{rules}
use Rattle.format.specs.Entry.{entry_part}
use Rattle.entries.proofs.file_part.Goals as goal

pub overflow_add-e : goal.overflow_add-e
unfolding entry_part
overflow_add-e c = search rules

pub u32_at-requires : goal.u32_at-requires
unfolding entry_part
u32_at-requires c = search rules

pub returns : goal.returns
unfolding entry_part
returns c = search rules
