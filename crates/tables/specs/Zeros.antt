-- What stands in the numbers of a tile record for what it lacks: zeros.
use Rattle.std.specs.Prelude.{◌≡◌, None, get_or, pos}
use Rattle.format.specs.declared.Tile.{Tile}
use Rattle.tables.specs.Numbers.{tile_numbers, tile_starts}

-- letter, size and start of layers; the place, width, height and stride of a mask; an M's start
pub record Zeros (t : Tile) : Type 0 where
  pub layers : t.layers ≡ None → (get_or (tile_numbers t) 22 1 ≡ 0) × (get_or (tile_numbers t) 23 1 ≡ 0) × (get_or (tile_starts t) 3 (pos 1) ≡ pos 0)
  pub mask : t.mask ≡ None
      → (get_or (tile_numbers t) 17 1 ≡ 0)
      × (get_or (tile_numbers t) 18 1 ≡ 0)
      × (get_or (tile_numbers t) 19 1 ≡ 0)
      × (get_or (tile_numbers t) 20 1 ≡ 0)
      × (get_or (tile_numbers t) 21 1 ≡ 0)
  pub m : t.m ≡ None → (get_or (tile_numbers t) 10 1 ≡ 0) × (get_or (tile_starts t) 2 (pos 1) ≡ pos 0)

abbrev pub AllZeros : Type 0
AllZeros = (t : Tile) → Zeros t
