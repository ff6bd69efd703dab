-- `repack::write::put_blocks` meets its contract.
use Rattle.judge.proofs.AcceptedFile.{accepted-long, accepted-entries}
use Rattle.subblocks.proofs.PartLaws.{listed_in}
use Rattle.repack.proofs.Bounds.{accepted-small}
use Rattle.repack.proofs.Sums.{entry_listed, entry-filled, block-small, blocks-fit}
use Rattle.repack.proofs.TileLoops.{blocks-put-start, block_room, blocks-put-next, blocks-put-end}
use Rattle.repack.proofs.WholeFile.{blocks-room}
use Rattle.repack.proofs.write.put_blocks.Goals as goal

pub first_entry-e-requires : goal.first_entry-e-requires
first_entry-e-requires c = search (accepted-long, accepted-entries)

pub loop-k-init : goal.loop-k-init
loop-k-init c = search blocks-put-start

pub file_position-q-requires : goal.file_position-q-requires
file_position-q-requires c = search (listed_in, entry_listed)

pub put_block-requires : goal.put_block-requires
put_block-requires c = search (entry-filled, accepted-small, block_room, blocks-room)

pub sub_block_size-requires : goal.sub_block_size-requires
sub_block_size-requires c = search entry-filled

pub segment_size-at-requires : goal.segment_size-at-requires
segment_size-at-requires c = search block-small

pub overflow_add-at : goal.overflow_add-at
overflow_add-at c = search blocks-fit

pub next_entry-e-requires : goal.next_entry-e-requires
next_entry-e-requires c = search (listed_in, entry_listed)

pub loop-k-preserved : goal.loop-k-preserved
loop-k-preserved c = search (blocks-put-next, blocks-room)

pub returns : goal.returns
returns c = search blocks-put-end
