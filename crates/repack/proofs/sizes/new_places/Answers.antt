-- `repack::sizes::new_places` meets its contract.
use Rattle.repack.proofs.NewPlaces.{directory-small, first_block, first-block-fits, directory-fits, first-attachment, first-attachment-fits, places-are}
use Rattle.repack.proofs.sizes.new_places.Goals as goal

pub segment_size-block-requires : goal.segment_size-block-requires
segment_size-block-requires c = search directory-small

pub overflow_add-block : goal.overflow_add-block
overflow_add-block c = search first-block-fits

pub blocks_end-metadata-requires : goal.blocks_end-metadata-requires
blocks_end-metadata-requires c = search first_block

pub overflow_add-attachment_directory : goal.overflow_add-attachment_directory
overflow_add-attachment_directory c = search directory-fits

pub overflow_add-attachment : goal.overflow_add-attachment
overflow_add-attachment c = search first-attachment-fits

pub attachments_end-end-requires : goal.attachments_end-end-requires
attachments_end-end-requires c = search first-attachment

pub returns : goal.returns
returns c = search (places-are, first_block)
