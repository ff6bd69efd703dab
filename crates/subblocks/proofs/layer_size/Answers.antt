-- `subblocks::layer_size` meets its contract.
use Rattle.entries.proofs.EntryLaws.{x-in, y-in}
use Rattle.subblocks.proofs.PartLaws.{listed_in, sides-fit, layer-read, layer_fits}
use Rattle.subblocks.proofs.layer_size.Goals as goal

pub stored_at-x-requires : goal.stored_at-x-requires
stored_at-x-requires c = search x-in

pub stored_at-y-requires : goal.stored_at-y-requires
stored_at-y-requires c = search y-in

pub pixel_type-requires : goal.pixel_type-requires
pixel_type-requires c = search listed_in

pub overflow_mul-result : goal.overflow_mul-result
overflow_mul-result c = search sides-fit

pub overflow_mul-result-2 : goal.overflow_mul-result-2
overflow_mul-result-2 c = search layer_fits

pub returns : goal.returns
returns c = search layer-read
