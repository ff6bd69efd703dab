-- `repack::write::put_entries` meets its contract.
use Rattle.judge.proofs.AcceptedFile.{accepted-long, accepted-entries}
use Rattle.subblocks.proofs.PartLaws.{listed_in}
use Rattle.repack.proofs.Sums.{entry_listed, entry-filled, block-small, blocks-fit}
use Rattle.repack.proofs.TileLoops.{entries-put-start, entry-room, entry-place-fits, entries-put-next, entries-put-end}
use Rattle.repack.proofs.write.put_entries.Goals as goal

pub first_entry-e-requires : goal.first_entry-e-requires
first_entry-e-requires c = search (accepted-long, accepted-entries)

pub loop-k-init : goal.loop-k-init
loop-k-init c = search entries-put-start

pub put_entry-requires : goal.put_entry-requires
put_entry-requires c = search (entry_listed, entry-room)

pub file_position-q-requires : goal.file_position-q-requires
file_position-q-requires c = search (listed_in, entry_listed)

pub entry_size-at-requires : goal.entry_size-at-requires
entry_size-at-requires c = search entry_listed

pub overflow_add-at : goal.overflow_add-at
overflow_add-at c = search entry-place-fits

pub sub_block_size-requires : goal.sub_block_size-requires
sub_block_size-requires c = search entry-filled

pub segment_size-position-requires : goal.segment_size-position-requires
segment_size-position-requires c = search block-small

pub overflow_add-position : goal.overflow_add-position
overflow_add-position c = search blocks-fit

pub next_entry-e-requires : goal.next_entry-e-requires
next_entry-e-requires c = search (listed_in, entry_listed)

pub loop-k-preserved : goal.loop-k-preserved
loop-k-preserved c = search entries-put-next

pub returns : goal.returns
returns c = search entries-put-end
