-- `subblocks::is_pixels_size` meets its contract.
use borrow.Author.Rules.{rules}
use Rattle.entries.proofs.EntryLaws.{x-in, y-in}
use Rattle.subblocks.proofs.PartLaws.{listed_in, x-stored, y-stored, bytes-some, bytes_fit, bytes-positive, product-read}
use Rattle.subblocks.proofs.is_pixels_size.Goals as goal

pub stored_at-x-requires : goal.stored_at-x-requires
stored_at-x-requires c = search x-in

pub stored_at-y-requires : goal.stored_at-y-requires
stored_at-y-requires c = search y-in

pub pixel_type-requires : goal.pixel_type-requires
pixel_type-requires c = search listed_in

pub overflow_mul-bytes : goal.overflow_mul-bytes
overflow_mul-bytes c = search bytes_fit

pub is_product-requires : goal.is_product-requires
is_product-requires c = (search x-stored, search y-stored, bytes-positive _ _ (search bytes-some) (search rules))

pub returns : goal.returns
returns c = search product-read
