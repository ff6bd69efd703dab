-- The loop over the rows of a tile in a window.
use mathlib.Core.Path.{◌≡◌, sym, ap, ap₂, ◌∙◌}
use Prim.Native.Nat.{ℕ, ◌+◌, ◌*◌, ◌-◌, ◌^◌, ◌≤◌, ◌<◌, min, max}
use native.Mathlib.Nat.{mul-le-mul_right, le_trans, le-mul_of_pos_right, lt_of_le_of_lt, div-lt_iff_lt-mul, le-div_iff_mul-le, mod-lt}
use native.Mathlib.Omega.{arith}
use mathlib.Core.List.{List}
use mathlib.Core.Bool.{Bool}
use lib.ListN.{length, get_or, length-drop}
use lib.Seq.{get_or-drop}
use mir.Syntax.{w64}
use mir.Val.{Fits}
use Rattle.plane.specs.Tiles.{area, col_of, row_of}
use Rattle.plane.specs.Paint.{bit}
use Rattle.plane.specs.Cuts.{Inside}
use Rattle.plane.proofs.PaintLaws.{Bytes, paint-length, mark-length}
use Rattle.plane.proofs.SumLaws.{count-le}
use Rattle.plane.specs.declared.Rect.{Rect}
use Rattle.paint.specs.declared.Row.{Row}
use Rattle.paint.specs.declared.Turn.{Turn}
use Rattle.paint.specs.RowPainting.{valid_at, gives_pixel, row_gives}
use Rattle.paint.proofs.Spans.{left-invalid}
use Rattle.turns.specs.TileOf.{valid_in, tile_of}
use Rattle.turns.specs.Turned.{RowOf, StretchRoom, StretchPainted, TurnRoom, Turned, Clipped}
use Rattle.turns.specs.declared.LentTile.{LentTile}
use Rattle.turns.specs.declared.Clip.{Clip}
use Rattle.turns.proofs.Turns.{Done, done_none, done_more, done-stretch, done_all}
use Rattle.turns.proofs.Tile.{tile_gives, tile_byte, in_row, part_end, off, here, byte-here, row-valid, row-lines}

-- the tile's part that meets the window: n columns from the tile's column x and the window's column col on, rows up to the window's row stop
pub record Meeting (t₀ m₀ : List ℕ) (w : Rect) (s : LentTile) (n x col stop : ℕ) : Type 0 where
  pub room : TurnRoom t₀ m₀ w s
  pub bytes : Bytes m₀
  pub size : length t₀ < 2 ^ 64
  pub some : 1 ≤ n
  pub at-col : w.left + col ≡ max w.left s.place.left
  pub at_x : s.place.left + x ≡ max w.left s.place.left
  pub at_n : w.left + col + n ≡ min (w.left + w.width) (s.place.left + s.place.width)
  pub at-stop : w.top + stop ≡ min (w.top + w.height) (s.place.top + s.place.height)

-- the pixels that the turn gives, the map being m when it begins
abbrev gives : Rect → LentTile → Turn → List ℕ → ℕ → Bool
gives w s q m p = gives_pixel q (tile_gives w s p) (bit m p)

-- the rows before row y are painted
pub record Rows (t₀ m₀ : List ℕ) (w : Rect) (s : LentTile) (q : Turn) (n x col stop y : ℕ) (t m : List ℕ) (g : ℕ) : Type 0 where
  pub meet : Meeting t₀ m₀ w s n x col stop
  pub low : y ≤ stop
  pub high : max w.top s.place.top ≤ w.top + y
  pub done : Done s.bytes (gives w s q m₀) (tile_byte w s) t₀ m₀ (y * w.width) t m g

-- n pixels of b bytes, x past the start z of a part of v pixels, end where all s parts end
ends : (z v x n s b r : ℕ) → z + v ≤ s → x + n ≤ v → s * b ≤ r → (z + x) * b + n * b ≤ r
ends z v x n s b r e c f = let g : z + x + n ≤ s = omega arith in omega (arith, mul-le-mul_right b g)

turned : {t₀ m₀ t m : List ℕ} {w : Rect} {s : LentTile} {g : ℕ} {q : Turn}
    → Done s.bytes (gives w s q m₀) (tile_byte w s) t₀ m₀ (area w) t m g → Turned t₀ m₀ w s q t m g
unfolding tile_of tile_gives tile_byte
turned {w = w} {s} {q = q} d = record { turned = λ rank stored. done_all q w s.bytes (tile_of rank s) stored d }

-- ---- before the first row, or where there is none
module _ {t₀ m₀ : List ℕ} {w : Rect} {s : LentTile} (q : Turn) (c : Clip) (r : TurnRoom t₀ m₀ w s) (h : Bytes m₀) (e : Clipped w s.place c) where
  -- no pixel before number n is the tile's
  none : (n : ℕ) → ((p : ℕ) → p < n → Inside s.place (col_of w p) (row_of w p) → ⊥) → Done s.bytes (gives w s q m₀) (tile_byte w s) t₀ m₀ n t₀ m₀ 0
  none n f = done_none r.room.bytes h n (λ p l. left-invalid q _ _ (off w s p (f p l)))

  pub rows-beside : c.right ≤ c.left → Turned t₀ m₀ w s q t₀ m₀ 0
  rows-beside l = turned (none (area w) (λ p _ i. omega (arith, mod-lt p r.room.wide)))

  pub rows-off : c.bottom ≤ c.top → Turned t₀ m₀ w s q t₀ m₀ 0
  rows-off l = turned (none (area w) (λ p z i. omega (arith, (div-lt_iff_lt-mul r.room.wide).1 z)))

  pub rows_none : length t₀ < 2 ^ 64 → c.left < c.right → c.top < c.bottom
      → Rows t₀ m₀ w s q (c.right - c.left) (c.left - s.place.left) (c.left - w.left) (c.bottom - w.top) (c.top - w.top) t₀ m₀ 0
  rows_none l i i' = record {
    meet = record { room = r; bytes = h; size = l; some = omega arith; at-col = omega arith; at_x = omega arith; at_n = omega arith; at-stop = omega arith };
    low = omega arith;
    high = omega arith;
    done = none ((c.top - w.top) * w.width) (λ p z i. omega (arith, (div-lt_iff_lt-mul r.room.wide).1 z));
  }

module _ {t₀ m₀ t m : List ℕ} {w : Rect} {s : LentTile} {n x col stop y g : ℕ} {q : Turn} (o : Rows t₀ m₀ w s q n x col stop y t m g) where
  pub rows-target : length t ≡ length t₀
  rows-target = ap length o.done.target ∙ paint-length (y * w.width) s.bytes _ _ t₀

  pub rows-map : length m ≡ length m₀
  rows-map = ap length o.done.map ∙ mark-length (y * w.width) _ m₀

  -- after the last row
  pub rows_all : stop ≤ y → Turned t₀ m₀ w s q t m g
  rows_all l =
      turned
      (done_more o.meet.room.room.bytes o.meet.bytes o.done (mul-le-mul_right w.width (omega arith))
      (λ p h z. left-invalid q _ _
      (off w s p (λ i. omega (arith, (le-div_iff_mul-le o.meet.room.room.wide).1 h, (div-lt_iff_lt-mul o.meet.room.room.wide).1 z)))))

  -- ---- row y: its numbers fit
  module _ (l : y < stop) where
    hb : 1 ≤ s.bytes
    hb = o.meet.room.room.bytes

    row-end : y * w.width + w.width ≤ w.height * w.width
    row-end = part_end y w.height w.width (omega arith)

    window-fits : w.height * w.width < 2 ^ 64
    window-fits = lt_of_le_of_lt (le_trans (le-mul_of_pos_right (w.height * w.width) hb) o.meet.room.room.target) o.meet.size

    pub row_first : Fits w64 (y * w.width + col)
    row_first = omega (arith, row-end, window-fits)

    -- ---- and the row painter has room
    row-pixels : y * w.width + col + n ≤ w.height * w.width
    row-pixels = omega (arith, row-end)

    source-end : (y + w.top - s.place.top) * s.place.width + s.place.width ≤ s.place.height * s.place.width
    source-end = part_end _ s.place.height s.place.width (omega arith)

    source-within : ((y + w.top - s.place.top) * s.place.width + x) * s.bytes + n * s.bytes ≤ length s.pixels.now
    source-within = ends _ _ x n _ s.bytes _ source-end (omega arith) o.meet.room.tile.pixels

    module _ {row : Row} (f : RowOf s (y + w.top - s.place.top) x (y * w.width + col) q row) where
      pub row_room : StretchRoom t m row n
      row_room = record {
        bytes = rw f.bytes hb;
        target = rw (f.first, f.bytes, rows-target) (le_trans (mul-le-mul_right s.bytes row-pixels) o.meet.room.room.target);
        source = rw (f.bytes, f.pixels, length-drop) (omega (arith, source-within));
        bits = rw (f.first, rows-map) (le_trans row-pixels o.meet.room.room.map);
        mask = row-lines f n o.meet.room.tile (omega arith);
      }

      -- a row more
      pub rows_more : {t' m' : List ℕ} {r : ℕ} → StretchPainted t m row n t' m' r → Rows t₀ m₀ w s q n x col stop (y + 1) t' m' (g + r)
      rows_more {t'} {m'} {r} c = record {
        meet = o.meet;
        low = omega arith;
        high = omega arith;
        done =
            done_more hb o.meet.bytes stretch
            (omega (arith, row-end)) (λ p h i. left-invalid q _ _ (off w s p (λ j. omega (arith, in_row w.width y p (omega arith) (omega arith)))));
      }
        where
          at : (p : ℕ) → row.first ≤ p → p < row.first + n
              → Inside s.place (col_of w p) (row_of w p) × (col_of w p - s.place.left ≡ x + (p - row.first)) × (row_of w p - s.place.top ≡ y + w.top - s.place.top)
          at p h i =
              let z = in_row w.width y p (omega (arith, f.first)) (omega (arith, f.first)) in
              (record { left = omega arith; right = omega arith; top = omega arith; bottom = omega arith }, omega arith, omega arith)

          valid : (p : ℕ) → row.first ≤ p → p < row.first + n → gives w s q m₀ p ≡ gives_pixel row.turn (valid_at row (p - row.first)) (bit m₀ p)
          valid p h i =
              let z = at p h i in
              ap₂ (λ (k : Turn) (v : Bool). gives_pixel k v (bit m₀ p)) (sym f.turn)
              (here w s p z.0 ∙ ap₂ (valid_in s.mask) z.1 z.2 ∙ sym (row-valid f (p - row.first)))

          source : (p j : ℕ) → row.first ≤ p → p < row.first + n → j < row.bytes
              → get_or row.pixels.now ((p - row.first) * row.bytes + j) 0 ≡ tile_byte w s p j
          source p j h i _ =
              let z = at p h i in
              rw (f.pixels, f.bytes, get_or-drop) (ap (λ (v : ℕ). get_or s.pixels.now v 0) (omega arith) ∙ sym (byte-here w s p z.1 z.2 j))

          before : Done row.bytes (gives w s q m₀) (tile_byte w s) t₀ m₀ row.first t m g
          before =
              rw (f.first, f.bytes)
              (done_more hb o.meet.bytes o.done (omega arith)
              (λ p h i. left-invalid q _ _ (off w s p (λ j. omega (arith, in_row w.width y p h (omega arith))))))

          stretch : Done s.bytes (gives w s q m₀) (tile_byte w s) t₀ m₀ (y * w.width + col + n) t' m' (g + r)
          stretch =
              rw (f.first, f.bytes) at
              (done-stretch (rw f.bytes hb) o.meet.bytes before c (rw f.first (le_trans row-pixels o.meet.room.room.map)) valid source)

    -- what the rows give in all
    pub rows-sum : {r : ℕ} {row : Row} {t' m' : List ℕ} → StretchPainted t m row n t' m' r → Fits w64 (g + r)
    rows-sum {r} {row} c =
        let e : r ≤ n = rw c.given (count-le n (row_gives m row)) in
        let f : g ≤ y * w.width = rw o.done.given (count-le (y * w.width) (gives w s q m₀)) in
        omega (arith, row-end, window-fits)
