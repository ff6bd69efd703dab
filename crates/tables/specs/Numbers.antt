-- Records as numbers, in the order of include/czi.h.
use Rattle.std.specs.Prelude.{ℕ, List, [], ◌∷◌, ℤ, pos, is_some, unwrap_or}
use Rattle.std.specs.Int.{from_bool}
use Rattle.format.specs.declared.TileMask.{TileMask}
use Rattle.format.specs.declared.Layers.{Layers}
use Rattle.format.specs.declared.Tile.{Tile}
use Rattle.format.specs.declared.Dimension.{Dimension}

-- ---- the tile record

-- what stands for a mask and for layers where there are none
abbrev pub no_mask : TileMask
no_mask = record { place = 0; shape = record { width = 0; height = 0; stride = 0 } }

abbrev pub no_layers : Layers
no_layers = record { letter = 0; start = pos 0; size = 0 }

-- the record's numbers, in this order: whether there are an M and a mask as 1 or 0
unfoldable pub tile_numbers : Tile → List ℕ
tile_numbers t =
    t.entry ∷
    t.place ∷
    t.pixel_type ∷
    t.position ∷
    t.pyramid ∷
    t.dimensions ∷
    t.x.size ∷
    t.x.stored ∷
    t.y.size ∷
    t.y.stored ∷
    from_bool (is_some t.m) ∷
    t.metadata.start ∷
    t.metadata.length ∷
    t.pixels.start ∷
    t.pixels.length ∷
    t.attachment.start ∷
    t.attachment.length ∷
    from_bool (is_some t.mask) ∷
    (unwrap_or t.mask no_mask).place ∷
    (unwrap_or t.mask no_mask).shape.width ∷
    (unwrap_or t.mask no_mask).shape.height ∷
    (unwrap_or t.mask no_mask).shape.stride ∷
    (unwrap_or t.layers no_layers).letter ∷
    (unwrap_or t.layers no_layers).size ∷
    []

-- its signed numbers: the Starts of X, Y, M and of the layers
unfoldable pub tile_starts : Tile → List ℤ
tile_starts t = t.x.start ∷ t.y.start ∷ unwrap_or t.m (pos 0) ∷ (unwrap_or t.layers no_layers).start ∷ []

-- ---- the dimension record, of a dimension of entry n

unfoldable pub dimension_numbers : ℕ → Dimension → List ℕ
dimension_numbers n d = n ∷ d.letter ∷ d.size ∷ d.coordinate_bits ∷ d.stored ∷ []

-- its signed number: its Start
unfoldable pub dimension_starts : Dimension → List ℤ
dimension_starts d = d.start ∷ []
