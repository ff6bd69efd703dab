-- `entries::size_at` meets its contract.
use borrow.Author.Rules.{rules}
use Rattle.format.specs.Entry.{size}
use Rattle.entries.proofs.size_at.Goals as goal

pub overflow_add-d : goal.overflow_add-d
unfolding size
overflow_add-d c = search rules

pub u32_at-requires : goal.u32_at-requires
unfolding size
u32_at-requires c = search rules

pub returns : goal.returns
unfolding size
returns c = search rules
