-- `repack::write::put_new_file` meets its contract.
use Rattle.repack.proofs.WholeFile.{file-put}
use Rattle.repack.proofs.write.put_new_file.Goals as goal

pub returns : goal.returns
returns c =
    file-put _ _ _ c.requires _ _ _ _ c.put_annexes.ensures c.put_blocks.ensures c.put_directory.ensures c.put_file.ensures
