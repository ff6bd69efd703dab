-- `repack::write::put_metadata_content` meets its contract.
use Rattle.repack.proofs.AnnexContents.{metadata-content-put}
use Rattle.repack.proofs.write.put_metadata_content.Goals as goal

pub returns : goal.returns
returns c =
    metadata-content-put _ _ _ _ _ _ _ _ c.requires.0 c.requires.1 c.requires.2 c.put_part-2.ensures c.put_zeros.ensures c.put_part.ensures
