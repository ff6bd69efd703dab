-- `listing::with_tile` meets its contract.
use Rattle.format.proofs.Flags.{flags, is_false}
use Rattle.listing.specs.Figures.{with_tile}
use Rattle.listing.proofs.with_tile.Goals as goal

pub returns-then-is_pyramid : goal.returns-then-is_pyramid
unfolding with_tile
returns-then-is_pyramid c = search flags depth 8

pub returns-in-Some : goal.returns-in-Some
unfolding with_tile
returns-in-Some c =
    rw (is_false _ _ c.is_pyramid.ensures c.if-is_pyramid.false, c.in-Some.is, c.joined.ensures, c.tile_corners-tile.ensures)

pub returns-in-None : goal.returns-in-None
unfolding with_tile
returns-in-None c =
    rw (is_false _ _ c.is_pyramid.ensures c.if-is_pyramid.false, c.in-None.is, c.tile_corners-tile.ensures)
