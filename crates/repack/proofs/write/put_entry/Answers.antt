-- `repack::write::put_entry` meets its contract.
use Rattle.repack.proofs.Contents.{entry-put}
use Rattle.repack.proofs.write.put_entry.Goals as goal

pub returns : goal.returns
returns c =
    entry-put _ _ _ _ _ _ _ _ _ _ _ c.requires.0 c.requires.1 c.dimension_count-n.ensures.0 c.put_part-3.ensures
    c.put_zeros.ensures c.put_part-2.ensures c.put_long.ensures c.put_part.ensures
