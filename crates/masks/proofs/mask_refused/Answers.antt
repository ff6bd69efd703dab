-- `masks::mask_refused` meets its contract.
use borrow.Author.Rules.{rules}
use Rattle.format.proofs.Flags.{flags}
use Rattle.format.specs.Masks.{mask_refused}
use Rattle.masks.proofs.mask_refused.Goals as goal

pub is_mask-requires : goal.is_mask-requires
unfolding mask_refused
is_mask-requires c = search rules

pub returns-then-seen : goal.returns-then-seen
unfolding mask_refused
returns-then-seen c = search flags depth 8

pub mask_bad-requires : goal.mask_bad-requires
unfolding mask_refused
mask_bad-requires c = search rules

pub returns-then-is_mask : goal.returns-then-is_mask
unfolding mask_refused
returns-then-is_mask c = search flags depth 8

pub returns : goal.returns
unfolding mask_refused
returns c = search flags depth 8
