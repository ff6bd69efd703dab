-- `tiles::bytes_of` meets its contract.
use mathlib.Core.Path.{ap, ◌∙◌}
use Rattle.format.specs.Entry.{pixel_bytes}
use Rattle.subblocks.proofs.PartLaws.{listed_in}
use Rattle.tiles.proofs.bytes_of.Goals as goal

pub pixel_type-requires : goal.pixel_type-requires
pixel_type-requires c = search listed_in

pub returns : goal.returns
returns c = c.pixel_bytes.ensures ∙ ap pixel_bytes c.pixel_type.ensures.0
