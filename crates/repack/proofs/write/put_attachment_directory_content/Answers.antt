-- `repack::write::put_attachment_directory_content` meets its contract.
use native.Mathlib.Omega.{arith}
use Rattle.judge.proofs.AcceptedFile.{accepted-attachments}
use Rattle.repack.proofs.AnnexContents.{directory-content-put}
use Rattle.repack.proofs.write.put_attachment_directory_content.Goals as goal

pub overflow_add-t : goal.overflow_add-t
overflow_add-t c =
    omega (arith, accepted-attachments _ c.requires.repack_room.accepted _ c.requires.in_bounds.0 c.requires.in_bounds.1)

pub put_part-requires : goal.put_part-requires
put_part-requires c =
    let h = accepted-attachments _ c.requires.repack_room.accepted _ c.requires.in_bounds.0 c.requires.in_bounds.1 in
    (omega arith, omega arith)

pub returns : goal.returns
returns c =
    directory-content-put _ _ _ _ _ _ _ _ (accepted-attachments _ c.requires.repack_room.accepted _ c.requires.in_bounds.0 c.requires.in_bounds.1) (omega arith) c.put_attachment_entries.ensures
    c.put_zeros.ensures c.put_part.ensures
