-- `masks::mask_height` meets its contract.
use borrow.Author.Rules.{rules}
use Rattle.format.specs.Masks.{mask_height}
use Rattle.masks.proofs.mask_height.Goals as goal

pub overflow_add-c : goal.overflow_add-c
unfolding mask_height
overflow_add-c c = search rules

pub u32_at-requires : goal.u32_at-requires
unfolding mask_height
u32_at-requires c = search rules

pub returns : goal.returns
unfolding mask_height
returns c = search rules
