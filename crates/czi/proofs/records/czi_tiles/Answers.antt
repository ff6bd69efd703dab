-- `czi::records::czi_tiles` meets its contract.
use Rattle.czi.proofs.Out.{tiles-out, tile-arrays-out}
use Rattle.czi.proofs.records.czi_tiles.Goals as goal

pub returns : goal.returns
returns c = search (tiles-out, tile-arrays-out)
