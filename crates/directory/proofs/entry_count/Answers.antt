-- `directory::entry_count` meets its contract.
use borrow.Author.Rules.{rules}
use Rattle.format.specs.Directory.{entry_count}
use Rattle.directory.proofs.entry_count.Goals as goal

pub overflow_add-d : goal.overflow_add-d
unfolding entry_count
overflow_add-d c = search rules

pub u32_at-requires : goal.u32_at-requires
unfolding entry_count
u32_at-requires c = search rules

pub returns : goal.returns
unfolding entry_count
returns c = search rules
