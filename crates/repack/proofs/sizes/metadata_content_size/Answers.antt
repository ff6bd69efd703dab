-- `repack::sizes::metadata_content_size` meets its contract.
use Rattle.repack.proofs.Sums.{metadata-in, metadata-sum}
use Rattle.repack.proofs.sizes.metadata_content_size.Goals as goal

pub xml_size-requires : goal.xml_size-requires
xml_size-requires c = search metadata-in

pub xml_attachment_size-requires : goal.xml_attachment_size-requires
xml_attachment_size-requires c = search metadata-in

pub returns : goal.returns
returns c = search metadata-sum
