-- `masks::is_mask` meets its contract.
use borrow.Author.Rules.{rules}
use Rattle.format.specs.Masks.{is_mask}
use Rattle.format.specs.Names.{mask_guid}
use Rattle.masks.proofs.is_mask.Goals as goal

pub returns : goal.returns
unfolding is_mask mask_guid
returns c = search rules
