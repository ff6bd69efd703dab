-- `czi::repacks::czi_repack_size` meets its contract.
use Rattle.czi.proofs.Out.{repack-size-out}
use Rattle.czi.proofs.repacks.czi_repack_size.Goals as goal

pub returns : goal.returns
returns c = search repack-size-out
