-- `subblocks::attachment_size` meets its contract.
use borrow.Author.Rules.{rules}
use Rattle.format.specs.SubBlock.{attachment_size}
use Rattle.subblocks.proofs.attachment_size.Goals as goal

pub overflow_add-q : goal.overflow_add-q
unfolding attachment_size
overflow_add-q c = search rules

pub u32_at-requires : goal.u32_at-requires
unfolding attachment_size
u32_at-requires c = search rules

pub returns : goal.returns
unfolding attachment_size
returns c = search rules
