-- `repack::write::put_metadata` meets its contract.
use Rattle.judge.proofs.AcceptedFile.{accepted-long}
use Rattle.repack.proofs.WholeFile.{absent-put, present-put, file-room, metadata-has-room}
use Rattle.repack.proofs.write.put_metadata.Goals as goal

pub metadata_position-m-requires : goal.metadata_position-m-requires
metadata_position-m-requires c = search accepted-long

pub put_metadata_at-requires : goal.put_metadata_at-requires
put_metadata_at-requires c = search (metadata-has-room, (file-room _ _ c.requires.fits).attachments)

pub returns-then-m-ne0 : goal.returns-then-m-ne0
returns-then-m-ne0 c = search present-put

pub returns-else-m-ne0 : goal.returns-else-m-ne0
returns-else-m-ne0 c = search absent-put
