-- `repack::write::put_attachment_directory` meets its contract.
use Rattle.judge.proofs.AcceptedFile.{accepted-long}
use Rattle.repack.proofs.WholeFile.{absent-put, present-put}
use Rattle.repack.proofs.write.put_attachment_directory.Goals as goal

pub attachment_directory_position-t-requires : goal.attachment_directory_position-t-requires
attachment_directory_position-t-requires c = search accepted-long

pub returns-then-t-ne0 : goal.returns-then-t-ne0
returns-then-t-ne0 c = search present-put

pub returns-else-t-ne0 : goal.returns-else-t-ne0
returns-else-t-ne0 c = search absent-put
