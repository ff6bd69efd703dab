-- `repack::write::put_attachment_entry` meets its contract.
use Rattle.repack.proofs.AnnexContents.{attachment-entry-put}
use Rattle.repack.proofs.write.put_attachment_entry.Goals as goal

pub returns : goal.returns
returns c =
    attachment-entry-put _ _ _ _ _ _ _ _ _ c.requires.0 c.requires.1 c.put_part-2.ensures c.put_long.ensures c.put_zeros.ensures c.put_part.ensures
