-- `subblocks::tile_at` meets its contract.
use Rattle.format.specs.Records.{tile_at}
use Rattle.entries.proofs.EntryLaws.{x-in, y-in}
use Rattle.subblocks.proofs.PartLaws.{listed_in}
use Rattle.subblocks.proofs.tile_at.Goals as goal

pub letter_extent-x-requires : goal.letter_extent-x-requires
letter_extent-x-requires c = search x-in

pub letter_extent-y-requires : goal.letter_extent-y-requires
letter_extent-y-requires c = search y-in

pub pixel_type-pixel_type-requires : goal.pixel_type-pixel_type-requires
pixel_type-pixel_type-requires c = search listed_in

pub pyramid_byte-pyramid-requires : goal.pyramid_byte-pyramid-requires
pyramid_byte-pyramid-requires c = search listed_in

pub dimension_count-dimensions-requires : goal.dimension_count-dimensions-requires
dimension_count-dimensions-requires c = search listed_in

pub metadata_span-metadata-requires : goal.metadata_span-metadata-requires
metadata_span-metadata-requires c = c.requires.filled

pub pixels_span-pixels-requires : goal.pixels_span-pixels-requires
pixels_span-pixels-requires c = c.requires.filled

pub attachment_span-attachment-requires : goal.attachment_span-attachment-requires
attachment_span-attachment-requires c = c.requires.filled

pub mask_of-mask-requires : goal.mask_of-mask-requires
mask_of-mask-requires c = c.requires

pub returns : goal.returns
unfolding tile_at
returns c =
    rw (
      ← c.letter_extent-x.ensures,
      ← c.letter_extent-y.ensures,
      ← c.m_index_of-m.ensures,
      ← c.layers_of-layers.ensures,
      ← c.pixel_type-pixel_type.ensures.0,
      ← c.pyramid_byte-pyramid.ensures.0,
      ← c.dimension_count-dimensions.ensures.0,
      ← c.metadata_span-metadata.ensures,
      ← c.pixels_span-pixels.ensures,
      ← c.attachment_span-attachment.ensures,
      ← c.mask_of-mask.ensures,
    )
