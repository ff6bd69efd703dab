-- `entries::start_at` meets its contract.
use borrow.Author.Rules.{rules}
use Rattle.format.specs.Entry.{start}
use Rattle.entries.proofs.start_at.Goals as goal

pub overflow_add-d : goal.overflow_add-d
unfolding start
overflow_add-d c = search rules

pub u32_at-requires : goal.u32_at-requires
unfolding start
u32_at-requires c = search rules

pub returns : goal.returns
unfolding start
returns c = search rules
