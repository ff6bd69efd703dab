-- `repack::sizes::attachment_directory_segment_size` meets its contract.
use Rattle.judge.proofs.AcceptedFile.{accepted-long}
use Rattle.repack.proofs.Sums.{attachments-most, attachment-directory-small, attachment-directory-room, attachment-directory-none}
use Rattle.repack.proofs.sizes.attachment_directory_segment_size.Goals as goal

pub attachment_directory_position-t-requires : goal.attachment_directory_position-t-requires
attachment_directory_position-t-requires c = search accepted-long

pub returns-then-t-eq0 : goal.returns-then-t-eq0
returns-then-t-eq0 c = search attachment-directory-none

pub attachment_directory_size-requires : goal.attachment_directory_size-requires
attachment_directory_size-requires c = search attachments-most

pub segment_size-requires : goal.segment_size-requires
segment_size-requires c = search attachment-directory-small

pub returns-else-t-eq0 : goal.returns-else-t-eq0
returns-else-t-eq0 c = search attachment-directory-room
