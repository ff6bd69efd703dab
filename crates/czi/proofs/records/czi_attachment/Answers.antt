-- `czi::records::czi_attachment` meets its contract.
use Rattle.parts.proofs.Parts.{found_in}
use Rattle.czi.proofs.Out.{attachment-refused-out, attachment-found-out}
use Rattle.czi.proofs.records.czi_attachment.Goals as goal

pub attachment_guid-requires : goal.attachment_guid-requires
attachment_guid-requires c = search found_in

pub attachment_type-requires : goal.attachment_type-requires
attachment_type-requires c = search found_in

pub attachment_name-requires : goal.attachment_name-requires
attachment_name-requires c = search found_in

pub returns-in-Err : goal.returns-in-Err
returns-in-Err c = rw (← c.release_of.ensures) (search attachment-refused-out)

pub returns-in-Ok : goal.returns-in-Ok
returns-in-Ok c = rw (← c.release_of.ensures) (search attachment-found-out)
