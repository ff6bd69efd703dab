-- `tiles::rectangle_of` meets its contract.
use Rattle.tiles.proofs.Rectangles.{x-in, y-in, rectangle-is}
use Rattle.tiles.proofs.rectangle_of.Goals as goal

pub biased_start-left-requires : goal.biased_start-left-requires
biased_start-left-requires c = search x-in

pub size_at-width-requires : goal.size_at-width-requires
size_at-width-requires c = search x-in

pub biased_start-top-requires : goal.biased_start-top-requires
biased_start-top-requires c = search y-in

pub size_at-height-requires : goal.size_at-height-requires
size_at-height-requires c = search y-in

pub returns : goal.returns
returns c = search rectangle-is
