-- `subblocks::data_size` meets its contract.
use borrow.Author.Rules.{rules}
use Rattle.format.specs.SubBlock.{data_size}
use Rattle.subblocks.proofs.data_size.Goals as goal

pub overflow_add-q : goal.overflow_add-q
unfolding data_size
overflow_add-q c = search rules

pub u64_at-requires : goal.u64_at-requires
unfolding data_size
u64_at-requires c = search rules

pub returns : goal.returns
unfolding data_size
returns c = search rules
