-- `subblocks::metadata_place` meets its contract.
use native.Mathlib.Omega.{arith}
use borrow.Author.Rules.{rules}
use Rattle.format.specs.SubBlock.{metadata_place}
use Rattle.subblocks.proofs.PartLaws.{agreed-in}
use Rattle.subblocks.proofs.metadata_place.Goals as goal

pub overflow_add-result : goal.overflow_add-result
unfolding metadata_place
overflow_add-result c = search rules

pub fixed_part-requires : goal.fixed_part-requires
unfolding metadata_place
fixed_part-requires c = search rules

pub overflow_add-result-2 : goal.overflow_add-result-2
unfolding metadata_place
overflow_add-result-2 c = omega (arith, (agreed-in _ _ _ _ c.requires).within)

pub returns : goal.returns
unfolding metadata_place
returns c = omega arith
