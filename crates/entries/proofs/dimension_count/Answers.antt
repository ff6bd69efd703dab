-- `entries::dimension_count` meets its contract.
use borrow.Author.Rules.{rules}
use Rattle.format.specs.Entry.{dimension_count}
use Rattle.entries.proofs.dimension_count.Goals as goal

pub overflow_add-e : goal.overflow_add-e
unfolding dimension_count
overflow_add-e c = search rules

pub u32_at-requires : goal.u32_at-requires
unfolding dimension_count
u32_at-requires c = search rules

pub returns : goal.returns
unfolding dimension_count
returns c = c.u32_at.ensures
