-- `repack::sizes::segment_count` meets its contract.
use Rattle.judge.proofs.AcceptedFile.{accepted-long}
use Rattle.repack.proofs.Segments.{count_fits, count-fits₂, count-fits₃, count-fits₄, count-is}
use Rattle.repack.proofs.sizes.segment_count.Goals as goal

pub metadata_position-requires : goal.metadata_position-requires
metadata_position-requires c = search accepted-long

pub attachment_directory_position-requires : goal.attachment_directory_position-requires
attachment_directory_position-requires c = search accepted-long

pub overflow_add-result : goal.overflow_add-result
overflow_add-result c = search count_fits

pub overflow_add-result-2 : goal.overflow_add-result-2
overflow_add-result-2 c = search count-fits₂

pub overflow_add-result-3 : goal.overflow_add-result-3
overflow_add-result-3 c = search count-fits₃

pub overflow_add-result-4 : goal.overflow_add-result-4
overflow_add-result-4 c = search count-fits₄

pub returns : goal.returns
returns c = search count-is
