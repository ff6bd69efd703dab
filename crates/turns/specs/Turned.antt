-- A tile's turn over lent bytes: where window and tile meet, a mask's line, a row's stretch of the target, the whole turn.
use Rattle.std.specs.Prelude.{◌≡◌, ℕ, ◌+◌, ◌*◌, ◌-◌, ◌^◌, ◌≤◌, ◌<◌, min, max, List, [], cond, ◌&&◌, leb, ltb, length, get_or, drop, None, IfSome, IsSomeAnd, MatchOption}
use Rattle.plane.specs.Sums.{count}
use Rattle.plane.specs.Paint.{paint, mark}
use Rattle.plane.specs.Turns.{Painting, Kind, plain, quick, turn}
use Rattle.plane.specs.Demand2.{Room}
use Rattle.plane.specs.declared.Rect.{Rect}
use Rattle.paint.specs.declared.MaskLine.{MaskLine}
use Rattle.paint.specs.declared.Row.{Row}
use Rattle.paint.specs.declared.Turn.{Turn}
use Rattle.paint.specs.declared.Turn.TheVariants.{Plain, Quick}
use Rattle.paint.specs.RowPainting.{LineRoom, valid_at, row_gives}
use Rattle.turns.specs.TileOf.{tile_of}
use Rattle.turns.specs.declared.Mask.{Mask}
use Rattle.turns.specs.declared.LentTile.{LentTile}
use Rattle.turns.specs.declared.Clip.{Clip}

-- the part of the plane where the window w and the rectangle a meet
pub record Clipped (w a : Rect) (c : Clip) : Type 0 where
  pub left : c.left ≡ max w.left a.left
  pub right : c.right ≡ min (w.left + w.width) (a.left + a.width)
  pub top : c.top ≡ max w.top a.top
  pub bottom : c.bottom ≡ min (w.top + w.height) (a.top + a.height)

-- ---- what is there of a tile

-- a mask's lines have its columns, and all of them are there
pub record MaskWhole (k : Mask) : Type 0 where
  pub stride : k.width ≤ 8 * k.stride
  pub lines : k.height * k.stride ≤ length k.lines.now

-- the tile's pixels and its mask's lines are all there
pub record TileWhole (s : LentTile) : Type 0 where
  pub pixels : s.place.height * s.place.width * s.bytes ≤ length s.pixels.now
  pub mask : IfSome s.mask MaskWhole

-- the mask's line for a tile's row r, whose first pixel is in column x: none of its columns count past the mask
pub record LineOf (k : Mask) (r x : ℕ) (l : MaskLine) : Type 0 where
  pub bits : l.bits.now ≡ cond (ltb r k.height) (drop (r * k.stride) k.lines.now) []
  pub columns : l.columns ≡ cond (ltb r k.height) k.width 0
  pub column : l.column ≡ x

-- the tile's row r from column x on, for a turn of the kind q, its pixel there having map bit number p
pub record RowOf (s : LentTile) (r x p : ℕ) (q : Turn) (row : Row) : Type 0 where
  pub first : row.first ≡ p
  pub bytes : row.bytes ≡ s.bytes
  pub pixels : row.pixels.now ≡ drop ((r * s.place.width + x) * s.bytes) s.pixels.now
  pub mask : MatchOption s.mask (row.mask ≡ None) (λ k. IsSomeAnd row.mask (λ l. LineOf k r x l))
  pub turn : row.turn ≡ q

-- ---- a row's stretch: n pixels of the target, from that of the row's first map bit on

pub record StretchRoom (t m : List ℕ) (row : Row) (n : ℕ) : Type 0 where
  pub bytes : 1 ≤ row.bytes
  pub target : (row.first + n) * row.bytes ≤ length t
  pub source : n * row.bytes ≤ length row.pixels.now
  pub bits : row.first + n ≤ 8 * length m
  pub mask : IfSome row.mask (λ k. LineRoom k n)

pub record StretchPainted (t m : List ℕ) (row : Row) (n : ℕ) (t' m' : List ℕ) (r : ℕ) : Type 0 where
  pub target : t' ≡ paint (row.first + n) row.bytes (λ p. leb row.first p && row_gives m row (p - row.first))
      (λ p j. get_or row.pixels.now ((p - row.first) * row.bytes + j) 0) t
  pub map : m' ≡ mark (row.first + n) (λ p. leb row.first p && valid_at row (p - row.first)) m
  pub given : r ≡ count n (row_gives m row)

-- ---- the turn

abbrev pub kind_of : Turn → Kind
kind_of Quick = quick
kind_of Plain = plain

-- the window w has room in the target t and the map m, the tile's pixels and its mask's lines are all there, and edges fit 64 bits
pub record TurnRoom (t m : List ℕ) (w : Rect) (s : LentTile) : Type 0 where
  pub room : Room w s.bytes t m
  pub tile : TileWhole s
  pub window_right : w.left + w.width < 2 ^ 64
  pub window_bottom : w.top + w.height < 2 ^ 64
  pub tile_right : s.place.left + s.place.width < 2 ^ 64
  pub tile_bottom : s.place.top + s.place.height < 2 ^ 64

-- target, map and store count after the turn are what the definition of a turn says, whatever the tile's rank and the store count before
pub record Turned (t m : List ℕ) (w : Rect) (s : LentTile) (q : Turn) (t' m' : List ℕ) (r : ℕ) : Type 0 where
  pub turned : (rank stored : ℕ)
      → ◌≡◌ {A = Painting} (record { target = t'; map = m'; stored = stored + r })
      (turn (kind_of q) w s.bytes (tile_of rank s) (record { target = t; map = m; stored = stored }))
