-- `repack::write::put_annexes` meets its contract.
use native.Mathlib.Omega.{arith}
use Rattle.repack.proofs.WholeFile.{annexes-put}
use Rattle.repack.proofs.write.put_annexes.Goals as goal

pub put_attachment_directory-requires : goal.put_attachment_directory-requires
put_attachment_directory-requires c = record { accepted = c.requires.accepted; places = c.requires.places; fits = omega arith }

pub put_attachments-requires : goal.put_attachments-requires
put_attachments-requires c = record { accepted = c.requires.accepted; places = c.requires.places; fits = omega arith }

pub returns : goal.returns
returns c =
    annexes-put _ _ _ c.requires _ _ _ c.put_attachments.ensures c.put_attachment_directory.ensures c.put_metadata.ensures
