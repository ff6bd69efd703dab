-- `subblocks::pixels_place` meets its contract.
use native.Mathlib.Omega.{arith}
use Rattle.format.specs.SubBlock.{pixels_place}
use Rattle.subblocks.proofs.PartLaws.{sizes-in, filled_in}
use Rattle.subblocks.proofs.pixels_place.Goals as goal

pub metadata_size-requires : goal.metadata_size-requires
metadata_size-requires c = search sizes-in

pub overflow_add-result : goal.overflow_add-result
overflow_add-result c = omega (arith, (filled_in _ _ _ _ c.requires).metadata)

pub returns : goal.returns
unfolding pixels_place
returns c = omega arith
