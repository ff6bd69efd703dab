-- `repack::write::put_attachment_content` meets its contract.
use Rattle.repack.proofs.AnnexContents.{attachment-content-put}
use Rattle.repack.proofs.write.put_attachment_content.Goals as goal

pub returns : goal.returns
returns c =
    attachment-content-put _ _ _ _ _ _ _ _ _ _ _ _ c.requires.0 c.requires.1 c.requires.2 c.requires.3 c.put_part-2.ensures c.put_zeros-2.ensures c.put_attachment_entry.ensures c.put_zeros.ensures c.put_part.ensures
