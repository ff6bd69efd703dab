-- `masks::mask_stride` meets its contract.
use borrow.Author.Rules.{rules}
use Rattle.format.specs.Masks.{mask_stride}
use Rattle.masks.proofs.mask_stride.Goals as goal

pub overflow_add-c : goal.overflow_add-c
unfolding mask_stride
overflow_add-c c = search rules

pub u32_at-requires : goal.u32_at-requires
unfolding mask_stride
u32_at-requires c = search rules

pub returns : goal.returns
unfolding mask_stride
returns c = search rules
