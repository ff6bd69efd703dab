-- One turn of the tile of an entry, over lent bytes. The entry stands at e of the file ds, its sub-block at q of the file bs; its layer is l.
use Rattle.std.specs.Prelude.{◌≡◌, ℕ, ◌+◌, ◌*◌, ◌^◌, ◌≤◌, ◌<◌, List, Bool, true, false, not, ◌||◌, length, Option, IfSome}
use Rattle.format.specs.Entry.{pixel_type, pixel_bytes, is_pyramid, layer_count}
use Rattle.format.specs.Masks.{mask_shape}
use Rattle.format.specs.Records.{mask_of}
use Rattle.format.specs.declared.Release.{Release}
use Rattle.format.specs.declared.TileMask.{TileMask}
use Rattle.subblocks.specs.Judged.{Filled, Judged}
use Rattle.plane.specs.declared.Rect.{Rect}
use Rattle.plane.specs.Tiles.{Tile}
use Rattle.plane.specs.Turns.{Painting, turn}
use Rattle.plane.specs.Demand2.{Room}
use Rattle.paint.specs.declared.Turn.{Turn}
use Rattle.turns.specs.TileOf.{valid_in, tile_of}
use Rattle.turns.specs.Turned.{kind_of, MaskWhole, TileWhole}
use Rattle.turns.specs.declared.Mask.{Mask}
use Rattle.turns.specs.declared.LentTile.{LentTile}
use Rattle.tiles.specs.FileTile.{rank_of, rectangle, unmasked, entry_tile}

-- ---- the turn

-- the tile's pixels lie in the file, it is no pyramid tile and has the layer, and the window w has room in the target t and the map m and edges that fit 64 bits
pub record TileRoom (t m ds : List ℕ) (e : ℕ) (bs : List ℕ) (q l : ℕ) (w : Rect) : Type 0 where
  pub filled : Filled ds e bs q
  pub whole : is_pyramid ds e ≡ false
  pub layer : l < layer_count ds e
  pub room : Room w (pixel_bytes (pixel_type ds e)) t m
  pub right : w.left + w.width < 2 ^ 64
  pub bottom : w.top + w.height < 2 ^ 64

-- besides, where masks are on, the tile's chunks were judged under the release rel and are right
pub record PaintRoom (t m ds : List ℕ) (e : ℕ) (bs : List ℕ) (q l : ℕ) (rel : Release) (on : Bool) (w : Rect) : Type 0 where
  pub tile : TileRoom t m ds e bs q l w
  pub judged : on ≡ true → Judged ds e bs q rel

-- target, map and store count after the turn are what the definition of a turn says of the entry's tile, whatever its number k and the store count before
pub record Painted (t m ds : List ℕ) (e : ℕ) (bs : List ℕ) (q l : ℕ) (rel : Release) (on : Bool) (w : Rect) (by : Turn) (t' m' : List ℕ) (r : ℕ) : Type 0 where
  pub painted : (k stored : ℕ)
      → ◌≡◌ {A = Painting} (record { target = t'; map = m'; stored = stored + r })
      (turn (kind_of by) w (pixel_bytes (pixel_type ds e)) (entry_tile ds on l k e bs q rel) (record { target = t; map = m; stored = stored }))

-- ---- the tile as it is lent

-- the layer's pixels and, where masks are on, the mask lie in the file
pub record LayerRoom (ds : List ℕ) (e : ℕ) (bs : List ℕ) (q l : ℕ) (rel : Release) (on : Bool) : Type 0 where
  pub filled : Filled ds e bs q
  pub whole : is_pyramid ds e ≡ false
  pub layer : l < layer_count ds e
  pub judged : on ≡ true → Judged ds e bs q rel

-- the mask m lies in the file bs, its columns in its lines
pub record Lined (bs : List ℕ) (m : TileMask) : Type 0 where
  pub shape_is : m.shape ≡ mask_shape bs m.place
  pub columns : m.shape.width ≤ 8 * m.shape.stride
  pub lines : m.place + 36 + m.shape.height * m.shape.stride ≤ length bs

-- all of the mask is lent, and it says of each pixel what the tile's own says
pub record MaskLent (ds : List ℕ) (e : ℕ) (bs : List ℕ) (q : ℕ) (rel : Release) (on : Bool) (k : Option Mask) : Type 0 where
  pub whole : IfSome k MaskWhole
  pub valid : (x y : ℕ) → valid_in k x y ≡ (not on || unmasked bs (mask_of ds e bs q rel) x y)

-- all of the entry's tile is lent
pub record TileLent (ds : List ℕ) (e : ℕ) (bs : List ℕ) (q l : ℕ) (rel : Release) (on : Bool) (s : LentTile) : Type 0 where
  pub place : s.place ≡ rectangle ds e
  pub bytes : s.bytes ≡ pixel_bytes (pixel_type ds e)
  pub whole : TileWhole s
  pub tile : (k : ℕ) → ◌≡◌ {A = Tile} (tile_of (rank_of ds k e) s) (entry_tile ds on l k e bs q rel)
