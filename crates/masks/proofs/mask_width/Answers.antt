-- `masks::mask_width` meets its contract.
use borrow.Author.Rules.{rules}
use Rattle.format.specs.Masks.{mask_width}
use Rattle.masks.proofs.mask_width.Goals as goal

pub overflow_add-c : goal.overflow_add-c
unfolding mask_width
overflow_add-c c = search rules

pub u32_at-requires : goal.u32_at-requires
unfolding mask_width
u32_at-requires c = search rules

pub returns : goal.returns
unfolding mask_width
returns c = search rules
