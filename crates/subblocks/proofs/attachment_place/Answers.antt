-- `subblocks::attachment_place` meets its contract.
use native.Mathlib.Omega.{arith}
use Rattle.format.specs.SubBlock.{attachment_place}
use Rattle.subblocks.proofs.PartLaws.{sizes-in, filled_in}
use Rattle.subblocks.proofs.attachment_place.Goals as goal

pub data_size-requires : goal.data_size-requires
data_size-requires c = search sizes-in

pub overflow_add-result : goal.overflow_add-result
overflow_add-result c = omega (arith, (filled_in _ _ _ _ c.requires).pixels)

pub returns : goal.returns
unfolding attachment_place
returns c = omega arith
