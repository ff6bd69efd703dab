-- `tiles::lent_tile` meets its contract.
use Rattle.tiles.proofs.EntryTiles.{pixels-in, tile-lent}
use Rattle.tiles.proofs.lent_tile.Goals as goal

pub slice_bounds-result-count : goal.slice_bounds-result-count
slice_bounds-result-count c = search pixels-in

pub slice_bounds-result-start : goal.slice_bounds-result-start
slice_bounds-result-start c = search pixels-in

pub returns : goal.returns
returns c = search tile-lent
