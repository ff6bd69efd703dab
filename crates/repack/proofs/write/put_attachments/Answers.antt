-- `repack::write::put_attachments` meets its contract.
use native.Mathlib.Omega.{arith}
use Rattle.judge.proofs.AcceptedFile.{accepted-long}
use Rattle.repack.proofs.Bounds.{accepted-small}
use Rattle.repack.proofs.Sums.{attachment-entry-fits, attachment-entry-in, attachment-in, attachment-size-in, attachment-small, attachments-fit}
use Rattle.repack.proofs.AnnexLoops.{attachments-start, attachment-fits, attachments-next, attachments-end}
use Rattle.repack.proofs.WholeFile.{end-room}
use Rattle.repack.proofs.write.put_attachments.Goals as goal

pub attachment_directory_position-t-requires : goal.attachment_directory_position-t-requires
attachment_directory_position-t-requires c = search accepted-long

pub loop-k-init : goal.loop-k-init
loop-k-init c = search attachments-start

pub attachment_entry-e-requires : goal.attachment_entry-e-requires
attachment_entry-e-requires c = search attachment-entry-fits

pub attachment_position-q-requires : goal.attachment_position-q-requires
attachment_position-q-requires c = search attachment-entry-in

pub put_attachment-requires : goal.put_attachment-requires
put_attachment-requires c =
    record { e_in_bounds = (search attachment-entry-in, search attachment-in, search accepted-small); q_in_bounds = search (attachment-fits, end-room) }

pub attachment_content_size-requires : goal.attachment_content_size-requires
attachment_content_size-requires c = search attachment-size-in

pub segment_size-at-requires : goal.segment_size-at-requires
segment_size-at-requires c = search attachment-small

pub overflow_add-at : goal.overflow_add-at
overflow_add-at c = search attachments-fit

pub loop-k-preserved : goal.loop-k-preserved
loop-k-preserved c =
    attachments-next _ _ _ _ c.requires.places.attachment c.requires.accepted _ c.attachment_directory_position-t.ensures c.requires.places.attachments _ _ _ c.loop-k.invariant (omega arith) _ c.attachment_entry-e.ensures
    _ c.attachment_position-q.ensures (end-room _ _ _ c.requires.places.attachments c.requires.fits) _ c.put_attachment.ensures _ _ c.attachment_content_size.ensures c.segment_size-at.ensures

pub shape_of-out : goal.shape_of-out
shape_of-out c = c.loop-k.invariant.same

pub returns : goal.returns
returns c = search attachments-end
