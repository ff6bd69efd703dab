-- `repack::sizes::attachments_end` meets its contract.
use native.Mathlib.Omega.{arith}
use Rattle.judge.proofs.AcceptedFile.{accepted-long}
use Rattle.repack.proofs.Sums.{attachment-entry-fits, attachment-entry-in, attachment-size-in, attachment-small, attachments-fit, attachments-next, at_last}
use Rattle.repack.proofs.sizes.attachments_end.Goals as goal

pub attachment_directory_position-t-requires : goal.attachment_directory_position-t-requires
attachment_directory_position-t-requires c = search accepted-long

pub loop-k-init : goal.loop-k-init
loop-k-init c = (omega arith, search)

pub attachment_entry-requires : goal.attachment_entry-requires
attachment_entry-requires c = search attachment-entry-fits

pub attachment_position-q-requires : goal.attachment_position-q-requires
attachment_position-q-requires c = search attachment-entry-in

pub attachment_content_size-requires : goal.attachment_content_size-requires
attachment_content_size-requires c = search attachment-size-in

pub segment_size-at-requires : goal.segment_size-at-requires
segment_size-at-requires c = search attachment-small

pub overflow_add-at : goal.overflow_add-at
overflow_add-at c = search attachments-fit

pub loop-k-preserved : goal.loop-k-preserved
loop-k-preserved c = (omega arith, search attachments-next)

pub returns : goal.returns
returns c = search at_last
