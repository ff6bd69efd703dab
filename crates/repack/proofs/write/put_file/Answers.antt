-- `repack::write::put_file` meets its contract.
use native.Mathlib.Omega.{arith}
use Rattle.judge.proofs.AcceptedFile.{accepted-long}
use Rattle.repack.proofs.WholeFile.{file-room}
use Rattle.repack.proofs.Written.{name-long, file-put}
use Rattle.segments.specs.declared.kinds.Kind.TheVariants as Kind
use Rattle.repack.proofs.write.put_file.Goals as goal

pub metadata_position-requires : goal.metadata_position-requires
metadata_position-requires c = search accepted-long

pub attachment_directory_position-requires : goal.attachment_directory_position-requires
attachment_directory_position-requires c = search accepted-long

pub put_header-requires : goal.put_header-requires
put_header-requires c = let r = file-room _ _ c.requires.fits in (omega arith, name-long Kind.File c.name.ensures, omega arith)

pub put_file_content-requires : goal.put_file_content-requires
put_file_content-requires c = let r = file-room _ _ c.requires.fits in (accepted-long _ c.requires.accepted, omega arith)

pub returns : goal.returns
returns c =
    let r = file-room _ _ c.requires.fits in
    file-put _ _ _ _ _ _ _ _ _ _ (accepted-long _ c.requires.accepted) (omega arith) c.requires.places.metadata c.requires.places.attachment_directory
    c.metadata_position.ensures c.if_named-m.ensures c.attachment_directory_position.ensures c.if_named-t.ensures c.put_file_content.ensures (rw c.name.ensures at c.put_header.ensures)
