-- `repack::write::put_attachment_entries` meets its contract.
use native.Mathlib.Omega.{arith}
use Rattle.repack.proofs.Sums.{attachment-entry-fits, attachment-entry-in, attachment-size-in, attachment-small, attachments-fit}
use Rattle.repack.proofs.AnnexLoops.{entries-start, entries_next, entries-end}
use Rattle.repack.proofs.write.put_attachment_entries.Goals as goal

pub loop-k-init : goal.loop-k-init
loop-k-init c = search entries-start

pub attachment_entry-e-requires : goal.attachment_entry-e-requires
attachment_entry-e-requires c = search attachment-entry-fits

pub put_attachment_entry-requires : goal.put_attachment_entry-requires
put_attachment_entry-requires c = (search attachment-entry-in, omega arith)

pub attachment_position-q-requires : goal.attachment_position-q-requires
attachment_position-q-requires c = search attachment-entry-in

pub attachment_content_size-requires : goal.attachment_content_size-requires
attachment_content_size-requires c = search attachment-size-in

pub segment_size-position-requires : goal.segment_size-position-requires
segment_size-position-requires c = search attachment-small

pub overflow_add-position : goal.overflow_add-position
overflow_add-position c = search attachments-fit

pub loop-k-preserved : goal.loop-k-preserved
loop-k-preserved c =
    entries_next _ _ _ _ c.requires.repack_room.accepted _ c.requires.in_bounds.0 c.requires.repack_room.places.attachments _ _ _ c.loop-k.invariant (omega arith) _ c.attachment_entry-e.ensures c.requires.in_bounds.1 _ c.put_attachment_entry.ensures
    _ _ _ c.attachment_position-q.ensures c.attachment_content_size.ensures c.segment_size-position.ensures

pub shape_of-out : goal.shape_of-out
shape_of-out c = c.loop-k.invariant.same

pub returns : goal.returns
returns c = search entries-end
