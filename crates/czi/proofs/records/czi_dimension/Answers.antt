-- `czi::records::czi_dimension` meets its contract.
use Rattle.entries.proofs.ReadBack.{read_back}
use Rattle.czi.proofs.Out.{dimension-out}
use Rattle.czi.proofs.records.czi_dimension.Goals as goal

pub returns : goal.returns
returns c = rw (← c.release_of.ensures) (search (dimension-out, read_back))
