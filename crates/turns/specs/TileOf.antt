-- A tile by its rectangle, its pixel bytes and its mask.
use Rattle.std.specs.Prelude.{ℕ, ◌+◌, ◌*◌, ◌-◌, ◌/◌, ◌%◌, Bool, true, ◌&&◌, ltb, get_or, Option, None, Some}
use Rattle.plane.specs.Tiles.{Tile, covers}
use Rattle.plane.specs.Paint.{bit_in}
use Rattle.turns.specs.declared.Mask.{Mask}
use Rattle.turns.specs.declared.LentTile.{LentTile}

-- the pixel in the tile's column c and row r is unmasked: the tile has no mask, or the mask has that row and column and their bit is one
unfoldable pub valid_in : Option Mask → ℕ → ℕ → Bool
valid_in (Some k) c r = ltb r k.height && (ltb c k.width && bit_in (get_or k.lines.now (r * k.stride + c / 8) 0) (c % 8))
valid_in None c r = true

-- the tile of rank `rank`: its pixels are stored row by row, its mask's lines one after the other, `stride` bytes each
unfoldable pub tile_of : ℕ → LentTile → Tile
tile_of rank s = record {
  rank = rank;
  gives = λ u v. covers s.place u v && valid_in s.mask (u - s.place.left) (v - s.place.top);
  byte = λ u v j. get_or s.pixels.now (((v - s.place.top) * s.place.width + (u - s.place.left)) * s.bytes + j) 0;
}
