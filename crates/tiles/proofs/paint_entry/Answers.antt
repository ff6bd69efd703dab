-- `tiles::paint_entry` meets its contract.
use Rattle.tiles.proofs.EntryTiles.{turn-room, painted-lent}
use Rattle.tiles.proofs.paint_entry.Goals as goal

pub paint_tile-requires : goal.paint_tile-requires
paint_tile-requires c = search turn-room

pub returns : goal.returns
returns c = search painted-lent
