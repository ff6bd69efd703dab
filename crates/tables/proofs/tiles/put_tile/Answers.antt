-- `tables::tiles::put_tile` meets its contract.
use Rattle.directory.proofs.Stages.{fixed_in}
use Rattle.judge.proofs.AcceptedFile.{accepted-under}
use Rattle.tables.proofs.Filling.{tile-entry, tile-judged, tile-put}
use Rattle.tables.proofs.tiles.put_tile.Goals as goal

pub file_position-q-requires : goal.file_position-q-requires
file_position-q-requires c = search (fixed_in, accepted-under, tile-entry)

pub tile_at-t-requires : goal.tile_at-t-requires
tile_at-t-requires c = search tile-judged

pub returns : goal.returns
returns c = search tile-put
