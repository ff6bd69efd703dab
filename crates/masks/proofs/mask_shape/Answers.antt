-- `masks::mask_shape` meets its contract.
use borrow.Author.Rules.{rules}
use Rattle.format.specs.Masks.{mask_shape}
use Rattle.masks.proofs.mask_shape.Goals as goal

pub mask_width-width-requires : goal.mask_width-width-requires
unfolding mask_shape
mask_width-width-requires c = search rules

pub mask_height-height-requires : goal.mask_height-height-requires
unfolding mask_shape
mask_height-height-requires c = search rules

pub mask_stride-stride-requires : goal.mask_stride-stride-requires
unfolding mask_shape
mask_stride-stride-requires c = search rules

pub returns : goal.returns
unfolding mask_shape
returns c = rw (← c.mask_width-width.ensures.0, ← c.mask_height-height.ensures.0, ← c.mask_stride-stride.ensures.0)
