-- `repack::write::put_file_content` meets its contract.
use Rattle.repack.proofs.Contents.{file-content-put}
use Rattle.repack.proofs.write.put_file_content.Goals as goal

pub returns : goal.returns
returns c =
    file-content-put _ _ _ _ _ _ _ _ _ _ _ _ _ _ _ c.requires.0 c.requires.1 c.put_zeros-4.ensures c.put_long-3.ensures
    c.put_zeros-3.ensures c.put_long-2.ensures c.put_long.ensures c.put_zeros-2.ensures c.put_part-2.ensures
    c.put_zeros.ensures c.put_part.ensures
