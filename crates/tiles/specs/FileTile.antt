-- The tile of a file's entry as a composer sees it: its rank, the plane pixels that it gives, their bytes.
-- A plane coordinate is the signed number plus 2 ^ 31.
use Rattle.std.specs.Prelude.{ℕ, zero, suc, ◌+◌, ◌-◌, ◌*◌, List, [], ◌∷◌, Bool, true, false, cond, not, ◌&&◌, ◌||◌, get_or, ℤ, ltb, Option, None, Some}
use Rattle.format.specs.Bytes.{any_below, biased}
use Rattle.format.specs.Scan.{Scan}
use Rattle.format.specs.Choice.{Choice, asked_layer}
use Rattle.format.specs.Entry.{pixel_type, pixel_bytes, dimension_count, start, size, has_letter, letter_place}
use Rattle.format.specs.SubBlock.{layer_pixels_place}
use Rattle.format.specs.Masks.{mask_valid}
use Rattle.format.specs.Records.{mask_of, tile_entry, tile_file, tile_position}
use Rattle.format.specs.declared.Release.{Release}
use Rattle.format.specs.declared.TileMask.{TileMask}
use Rattle.plane.specs.Tiles.{Tile, covers}
use Rattle.plane.specs.declared.Rect.{Rect}

-- greater M lies on top; tiles without M lie below all with M; at a tie the later directory entry is on top.
-- Entry numbers are below 4,096.
unfoldable pub rank_of : List ℕ → ℕ → ℕ → ℕ
rank_of bs k e =
    cond (any_below (dimension_count bs e) (has_letter bs e 77))
    ((biased (start bs (letter_place bs e 77)) + 1) * 4096 + k)
    k

-- the tile's rectangle: X Start, Y Start, X Size, Y Size
unfoldable pub rectangle : List ℕ → ℕ → Rect
rectangle bs e = record {
  left = biased (start bs (letter_place bs e 88));
  top = biased (start bs (letter_place bs e 89));
  width = size bs (letter_place bs e 88);
  height = size bs (letter_place bs e 89);
}

-- a rectangle and a window, each of which has a pixel, meet: they share one
unfoldable pub meets : Rect → Rect → Bool
meets a w =
    (ltb w.left (a.left + a.width) && ltb a.left (w.left + w.width)) &&
    (ltb w.top (a.top + a.height) && ltb a.top (w.top + w.height))

-- the pixel in column x and row y of a tile is not masked out
abbrev pub unmasked : List ℕ → Option TileMask → ℕ → ℕ → Bool
unmasked bs None x y = true
unmasked bs (Some m) x y = mask_valid bs m.place x y

-- the tile of entry k, which stands at e of the file ds, its sub-block at q of the file bs; its layer l; masks on or off; under a release.
-- The mask serves each layer
unfoldable pub entry_tile : List ℕ → Bool → ℕ → ℕ → ℕ → List ℕ → ℕ → Release → Tile
entry_tile ds on l k e bs q r = record {
  rank = rank_of ds k e;
  gives = λ u v. covers (rectangle ds e) u v && (not on || unmasked bs (mask_of ds e bs q r) (u - (rectangle ds e).left) (v - (rectangle ds e).top));
  byte = λ u v j.
      get_or bs (layer_pixels_place ds e bs q l + (((v - (rectangle ds e).top) * (rectangle ds e).width + (u - (rectangle ds e).left)) * pixel_bytes (pixel_type ds e) + j)) 0;
}

-- the tile of entry k of a scan, where it is selected: with the layer that is asked for
unfoldable pub file_tile : Choice → ℕ → Tile
file_tile ch k =
    entry_tile ch.scan.file ch.masks (asked_layer ch.scan.file (tile_entry ch.scan k) ch.starts) k (tile_entry ch.scan k) (tile_file ch.scan k)
    (tile_position ch.scan k) ch.scan.release

-- the tiles of the entries below n that `chosen` takes, painted as ch says
unfoldable pub tiles_below : ℕ → Choice → (ℕ → Bool) → List Tile
tiles_below zero ch chosen = []
tiles_below (suc n) ch chosen = cond (chosen n) (file_tile ch n ∷ tiles_below n ch chosen) (tiles_below n ch chosen)

-- what painting reads of a choice: not whether S may be any, which only selects
abbrev pub paints : Scan → List ℤ → Bool → Choice
paints sc starts on = record { scan = sc; starts = starts; any_scene = false; masks = on }
