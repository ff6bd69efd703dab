-- `czi::records::czi_dimensions` meets its contract.
use Rattle.czi.proofs.Out.{table-out}
use Rattle.czi.proofs.records.czi_dimensions.Goals as goal

pub returns : goal.returns
returns c = rw (← c.release_of.ensures) (search table-out)
