-- `segments::allocated_at` meets its contract.
use borrow.Author.Rules.{rules}
use Rattle.format.specs.Segments.{allocated_size}
use Rattle.segments.proofs.allocated_at.Goals as goal

pub overflow_add-p : goal.overflow_add-p
unfolding allocated_size
overflow_add-p c = search rules

pub u64_at-requires : goal.u64_at-requires
unfolding allocated_size
u64_at-requires c = search rules

pub returns : goal.returns
unfolding allocated_size
returns c = c.u64_at.ensures
