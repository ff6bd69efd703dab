-- `subblocks::metadata_size` meets its contract.
use borrow.Author.Rules.{rules}
use Rattle.format.specs.SubBlock.{metadata_size}
use Rattle.subblocks.proofs.metadata_size.Goals as goal

pub overflow_add-q : goal.overflow_add-q
unfolding metadata_size
overflow_add-q c = search rules

pub u32_at-requires : goal.u32_at-requires
unfolding metadata_size
u32_at-requires c = search rules

pub returns : goal.returns
unfolding metadata_size
returns c = search rules
