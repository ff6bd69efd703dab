-- `entries::compression` meets its contract.
use borrow.Author.Rules.{rules}
use Rattle.format.specs.Entry.{compression}
use Rattle.entries.proofs.compression.Goals as goal

pub overflow_add-e : goal.overflow_add-e
unfolding compression
overflow_add-e c = search rules

pub u32_at-requires : goal.u32_at-requires
unfolding compression
u32_at-requires c = search rules

pub returns : goal.returns
unfolding compression
returns c = search rules
