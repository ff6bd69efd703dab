-- `segments::used_at` meets its contract.
use borrow.Author.Rules.{rules}
use Rattle.format.specs.Segments.{used_size}
use Rattle.segments.proofs.used_at.Goals as goal

pub overflow_add-p : goal.overflow_add-p
unfolding used_size
overflow_add-p c = search rules

pub u64_at-requires : goal.u64_at-requires
unfolding used_size
u64_at-requires c = search rules

pub returns : goal.returns
unfolding used_size
returns c = c.u64_at.ensures
