-- The tile of an entry is the tile that is painted: by its rectangle, the file's bytes from its layer's pixels on, and its mask's lines.
-- The entry stands at e of the file ds, its sub-block at q of the file bs; the layer is l. Assumes nothing.
use mathlib.Core.Path.{◌≡◌, refl, sym, ap, ◌∙◌}
use Prim.Native.Nat.{ℕ, ◌+◌, ◌*◌, ◌-◌, ◌/◌, ◌≤◌}
use native.Mathlib.Nat.{mul_comm}
use native.Mathlib.Omega.{arith}
use mathlib.Core.List.{List}
use mathlib.Core.Bool.{Bool, true, false, cond, not, ◌&&◌, ◌||◌, or-true}
use Rattle.std.specs.Prelude.{Option, Some, None}
use lib.Dec.{ltb}
use lib.ListN.{length, get_or, take, drop, length-drop}
use lib.Seq.{take_all, get_or-drop}
use borrow.Author.Tests.{eqb-true, not-false}
use Rattle.format.specs.Entry.{pixel_type, pixel_bytes, size, stored, letter_place, is_pyramid}
use Rattle.format.specs.SubBlock.{attachment_size, layer_pixels_place, attachment_place, layer_size}
use Rattle.format.specs.Masks.{has_chunks, mask_width, mask_height, mask_stride, mask_shape, mask_from, mask_byte, mask_valid}
use Rattle.format.specs.Records.{mask_of}
use Rattle.format.specs.declared.Release.{Release}
use Rattle.format.specs.declared.MaskShape.{MaskShape}
use Rattle.format.specs.declared.TileMask.{TileMask}
use Rattle.format.proofs.Below.{none}
use Rattle.masks.proofs.MaskLaws.{mask_fits}
use Rattle.masks.proofs.ChunkLaws.{MaskIn, mask-ok}
use Rattle.subblocks.specs.Judged.{Judged}
use Rattle.subblocks.proofs.PartLaws.{filled_in, layer-in, container-chunks}
use Rattle.plane.specs.Tiles.{Tile, covers}
use Rattle.plane.specs.Paint.{bit_in}
use Rattle.plane.specs.Turns.{turn}
use Rattle.plane.specs.declared.Rect.{Rect}
use Rattle.paint.specs.declared.Turn.{Turn}
use Rattle.turns.specs.TileOf.{valid_in, tile_of as turns_tile}
use Rattle.turns.specs.Turned.{kind_of, TurnRoom, Turned}
use Rattle.turns.specs.declared.Mask.{Mask}
use Rattle.turns.specs.declared.LentTile.{LentTile}
use Rattle.tiles.specs.FileTile.{rank_of, rectangle, unmasked, entry_tile}
use Rattle.tiles.specs.Painted.{PaintRoom, Painted, LayerRoom, Lined, MaskLent, TileLent}
use Rattle.tiles.proofs.Rectangles.{rectangle-edges}

-- ---- equal tiles

module _ (ds : List ℕ) (e : ℕ) (bs : List ℕ) (q l k : ℕ) (rel : Release) where
  -- a byte of the tile is one of the file from the layer's pixels on
  same_byte : (on : Bool) (u v j : ℕ)
      → get_or (drop (layer_pixels_place ds e bs q l) bs)
      (((v - (rectangle ds e).top) * (rectangle ds e).width + (u - (rectangle ds e).left)) * pixel_bytes (pixel_type ds e) + j)
      0
      ≡ (entry_tile ds on l k e bs q rel).byte u v j
  unfolding entry_tile
  same_byte on u v j =
      get_or-drop (layer_pixels_place ds e bs q l) bs
      (((v - (rectangle ds e).top) * (rectangle ds e).width + (u - (rectangle ds e).left)) * pixel_bytes (pixel_type ds e) + j)
      0

  -- the mask m says of each pixel what the tile's own says
  same_gives : (on : Bool) (m : Option Mask) → ((x y : ℕ) → valid_in m x y ≡ (not on || unmasked bs (mask_of ds e bs q rel) x y))
      → (u v : ℕ)
      → (covers (rectangle ds e) u v && valid_in m (u - (rectangle ds e).left) (v - (rectangle ds e).top)) ≡ (entry_tile ds on l k e bs q rel).gives u v
  unfolding entry_tile
  same_gives on m h u v = ap (λ z. covers (rectangle ds e) u v && z) (h (u - (rectangle ds e).left) (v - (rectangle ds e).top))

  same-tile : (on : Bool) (s : LentTile) → s.place ≡ rectangle ds e → s.bytes ≡ pixel_bytes (pixel_type ds e)
      → s.pixels.now ≡ drop (layer_pixels_place ds e bs q l) bs
      → ((x y : ℕ) → valid_in s.mask x y ≡ (not on || unmasked bs (mask_of ds e bs q rel) x y))
      → turns_tile (rank_of ds k e) s ≡ entry_tile ds on l k e bs q rel
  unfolding entry_tile turns_tile
  same-tile on s a b p h i = record { rank = rank_of ds k e; gives = λ u v. gives u v i; byte = λ u v j. byte u v j i }
    where
      gives : (u v : ℕ) → (covers s.place u v && valid_in s.mask (u - s.place.left) (v - s.place.top)) ≡ (entry_tile ds on l k e bs q rel).gives u v
      gives u v = rw a (same_gives on s.mask h u v)

      byte : (u v j : ℕ)
          → get_or s.pixels.now (((v - s.place.top) * s.place.width + (u - s.place.left)) * s.bytes + j) 0 ≡ (entry_tile ds on l k e bs q rel).byte u v j
      byte u v j = rw (a, b, p) (same_byte on u v j)

-- the lines of the chunk at c
valid-lines : (bs : List ℕ) (c : ℕ) (k : Mask) → k.width ≡ mask_width bs c → k.height ≡ mask_height bs c → k.stride ≡ mask_stride bs c
    → k.lines.now ≡ drop (c + 36) bs → (x y : ℕ) → valid_in (Some k) x y ≡ mask_valid bs c x y
unfolding valid_in mask_valid mask_byte bit_in
valid-lines bs c k w h s l x y =
    rw (w, h, s, l, get_or-drop, place)
    (go (ltb x (mask_width bs c)) (ltb y (mask_height bs c)) _)
  where
    place : c + 36 + (y * mask_stride bs c + x / 8) ≡ c + 20 + 16 + y * mask_stride bs c + x / 8
    place = omega arith

    go : (a b t : Bool) → (b && (a && t)) ≡ cond a (cond b t false) false
    go true true t = refl
    go true false t = refl
    go false true t = refl
    go false false t = refl

-- the file from n on, as it is lent
rest : (n : ℕ) (bs : List ℕ) → take (length bs - n) (drop n bs) ≡ drop n bs
rest n bs = take_all (length bs - n) (drop n bs) (rw length-drop (omega arith))

-- ---- the mask of a judged sub-block lies in the file

mask-in : (bs : List ℕ) (end c : ℕ) (shape : MaskShape) → end ≤ length bs → MaskIn bs end c shape → Lined bs (record { place = c; shape = shape })
unfolding mask_shape
mask-in bs end c shape h i =
    let f = mask_fits bs c i.good in
    let w = ap (λ (z : MaskShape). z.width) i.dimensions in
    let s = ap (λ (z : MaskShape). z.stride) i.dimensions in
    record {
      shape_is = i.dimensions;
      columns = omega (arith, w, s, f.columns);
      lines = rw (i.dimensions, mul_comm (mask_height bs c) (mask_stride bs c)) (omega (arith, f.lines, i.within));
    }

module _ {ds : List ℕ} {e : ℕ} {bs : List ℕ} {q : ℕ} {rel : Release} where
  pub mask-lined : {m : TileMask} → Judged ds e bs q rel → mask_of ds e bs q rel ≡ Some m → Lined bs m
  unfolding mask_of
  mask-lined {m} j h = go (has_chunks ds e bs q rel) refl h
    where
      end : ℕ
      end = attachment_place ds e bs q + attachment_size bs q

      go : (b : Bool) → has_chunks ds e bs q rel ≡ b → cond b (mask_from (attachment_size bs q) bs end (attachment_place ds e bs q)) None ≡ Some m
          → Lined bs m
      go true y h =
          mask-in bs end m.place m.shape (filled_in ds e bs q j.filled).attachment
          (mask-ok (attachment_size bs q) bs _ false (attachment_place ds e bs q) m.place m.shape (container-chunks ds e bs q rel y j.attachment) h)
      go false y h = cc

  -- ---- the mask as it is lent

  -- masks are off
  pub mask-off : {on : Bool} → on ≡ false → MaskLent ds e bs q rel on None
  unfolding valid_in
  mask-off h = record { whole = tt; valid = λ x y. rw h }

  -- the tile has none
  pub mask-none : {on : Bool} → mask_of ds e bs q rel ≡ None → MaskLent ds e bs q rel on None
  unfolding valid_in
  mask-none {on} h = record { whole = tt; valid = λ x y. rw h (sym (or-true (not on))) }

  -- it has one, whose lines begin at n
  pub mask-some : {on : Bool} {m : TileMask} {n : ℕ} {k : Mask} → on ≡ true → mask_of ds e bs q rel ≡ Some m → Lined bs m → n ≡ m.place + 36
      → k.width ≡ m.shape.width → k.height ≡ m.shape.height → k.stride ≡ m.shape.stride → k.lines.now ≡ take (length bs - n) (drop n bs)
      → MaskLent ds e bs q rel on (Some k)
  unfolding mask_shape
  mask-some {m = m} {n} {k} o h i p w v s f = record {
    whole = record { stride = omega (arith, i.columns); lines = rw (f, rest n bs, length-drop n bs, v, s) (omega (arith, i.lines)) };
    valid = λ x y. rw (o, h)
        (valid-lines bs m.place k
        (w ∙ ap (λ (z : MaskShape). z.width) i.shape_is) (v ∙ ap (λ (z : MaskShape). z.height) i.shape_is) (s ∙ ap (λ (z : MaskShape). z.stride) i.shape_is)
        (f ∙ rest n bs ∙ ap (λ (z : ℕ). drop z bs) p) x y);
  }

-- ---- the pixels of a judged sub-block lie in the file

record Whole (ds : List ℕ) (e : ℕ) : Type 0 where
  pub x : stored ds (letter_place ds e 88) ≡ size ds (letter_place ds e 88)
  pub y : stored ds (letter_place ds e 89) ≡ size ds (letter_place ds e 89)

-- no pyramid tile: stored size is Size
whole-ok : (ds : List ℕ) (e : ℕ) → is_pyramid ds e ≡ false → Whole ds e
unfolding is_pyramid
whole-ok ds e h = record { x = eqb-true _ _ (not-false _ (none _ h 0)); y = eqb-true _ _ (not-false _ (none _ h 1)) }

-- the bytes of one of its layers are those of its rectangle
pub layer-whole : (ds : List ℕ) (e : ℕ) → is_pyramid ds e ≡ false → layer_size ds e ≡ (rectangle ds e).height * (rectangle ds e).width * pixel_bytes (pixel_type ds e)
unfolding rectangle layer_size
layer-whole ds e h = let p = whole-ok ds e h in rw (p.x, p.y, mul_comm (size ds (letter_place ds e 88)) (size ds (letter_place ds e 89)))

module _ {ds : List ℕ} {e : ℕ} {bs : List ℕ} {q l : ℕ} {rel : Release} {on : Bool} where
  pixels-room : LayerRoom ds e bs q l rel on
      → layer_pixels_place ds e bs q l + (rectangle ds e).height * (rectangle ds e).width * pixel_bytes (pixel_type ds e) ≤ length bs
  pixels-room p =
      rw (← layer-whole ds e p.whole) (omega (arith, layer-in ds e bs q p.filled l p.layer, (filled_in ds e bs q p.filled).pixels))

  -- where the layer's pixels begin, as it was read
  pub pixels-in : (from : ℕ) → LayerRoom ds e bs q l rel on → from ≡ layer_pixels_place ds e bs q l → from ≤ length bs
  pixels-in from p h = omega (arith, pixels-room p)

  -- the tile as it is lent, its pixels from byte `from` on
  pub tile-lent : (from : ℕ) {s : LentTile} → LayerRoom ds e bs q l rel on → from ≡ layer_pixels_place ds e bs q l
      → s.place ≡ rectangle ds e → s.bytes ≡ pixel_bytes (pixel_type ds e) → s.pixels.now ≡ take (length bs - from) (drop from bs)
      → MaskLent ds e bs q rel on s.mask → TileLent ds e bs q l rel on s
  tile-lent from {s} p h a b f m =
      let g = f ∙ rest from bs ∙ ap (λ (z : ℕ). drop z bs) h in
      record {
        place = a;
        bytes = b;
        whole = record { pixels = rw (a, b, g, length-drop (layer_pixels_place ds e bs q l) bs) (omega (arith, pixels-room p)); mask = m.whole };
        tile = λ k. same-tile ds e bs q l k rel on s a b g m.valid;
      }

  module _ {t m : List ℕ} {w : Rect} (p : PaintRoom t m ds e bs q l rel on w) where
    pub layer-room : LayerRoom ds e bs q l rel on
    layer-room = record { filled = p.tile.filled; whole = p.tile.whole; layer = p.tile.layer; judged = p.judged }

    module _ {s : LentTile} (i : TileLent ds e bs q l rel on s) where
      pub turn-room : TurnRoom t m w s
      turn-room =
          let f = rectangle-edges ds e p.tile.filled.agreed.placed.listed in
          record {
            room = rw i.bytes p.tile.room;
            tile = i.whole;
            window_right = p.tile.right;
            window_bottom = p.tile.bottom;
            tile_right = rw i.place (omega (arith, f.right));
            tile_bottom = rw i.place (omega (arith, f.bottom));
          }

      -- what is painted of it is painted of the entry's tile
      pub painted-lent : {by : Turn} {t' m' : List ℕ} {r : ℕ} → Turned t m w s by t' m' r → Painted t m ds e bs q l rel on w by t' m' r
      painted-lent {by} d = record {
        painted = λ k stored.
            d.turned (rank_of ds k e) stored
            ∙ ap (λ (b : ℕ). turn (kind_of by) w b (turns_tile (rank_of ds k e) s) (record { target = t; map = m; stored = stored })) i.bytes
            ∙ ap (λ (z : Tile). turn (kind_of by) w (pixel_bytes (pixel_type ds e)) z (record { target = t; map = m; stored = stored })) (i.tile k);
      }
