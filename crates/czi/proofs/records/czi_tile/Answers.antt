-- `czi::records::czi_tile` meets its contract.
use Rattle.czi.proofs.Out.{tile-refused-out, tile-found-out}
use Rattle.czi.proofs.records.czi_tile.Goals as goal

pub returns-in-Err : goal.returns-in-Err
returns-in-Err c = rw (← c.release_of.ensures) (search tile-refused-out)

pub returns-in-Ok : goal.returns-in-Ok
returns-in-Ok c = rw (← c.release_of.ensures) (search tile-found-out)
