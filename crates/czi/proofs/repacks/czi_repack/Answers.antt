-- `czi::repacks::czi_repack` meets its contract.
use Rattle.czi.proofs.Out.{repack-out}
use Rattle.czi.proofs.repacks.czi_repack.Goals as goal

pub returns : goal.returns
returns c = search repack-out
