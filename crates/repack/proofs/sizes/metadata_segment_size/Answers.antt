-- `repack::sizes::metadata_segment_size` meets its contract.
use Rattle.judge.proofs.AcceptedFile.{accepted-long}
use Rattle.repack.proofs.Sums.{metadata-none, metadata-room, metadata-small}
use Rattle.repack.proofs.sizes.metadata_segment_size.Goals as goal

pub metadata_position-m-requires : goal.metadata_position-m-requires
metadata_position-m-requires c = search accepted-long

pub returns-then-m-eq0 : goal.returns-then-m-eq0
returns-then-m-eq0 c = search metadata-none

pub segment_size-requires : goal.segment_size-requires
segment_size-requires c = search metadata-small

pub returns-else-m-eq0 : goal.returns-else-m-eq0
returns-else-m-eq0 c = search metadata-room
