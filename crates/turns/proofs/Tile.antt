-- A tile by its rectangle, in a window: which of the window's pixels it gives, by their number, and with which bytes.
use mathlib.Core.Path.{◌≡◌, subst}
use mathlib.Core.Logic.{by_cases}
use Prim.Native.Nat.{ℕ, ◌+◌, ◌*◌, ◌-◌, ◌/◌, ◌%◌, ◌≤◌, ◌<◌}
use native.Mathlib.Nat.{add-sub_of_le, mul-le-mul_right}
use native.Mathlib.Decide.{dec_lt}
use native.Mathlib.Omega.{arith}
use mathlib.Core.Bool.{Bool, false, ◌&&◌, and-false}
use lib.Arith.{digits_div, digits_mod}
use lib.Dec.{ltb, leb}
use lib.ListN.{get_or, length-drop}
use Rattle.std.specs.Prelude.{Option, Some, None, IfSome, IsSomeAnd, MatchOption, ◌^◌}
use lib.Seq.{get_or-drop}
use borrow.Author.Tests.{lt-ltb, le-ltb, le-leb, lt-leb}
use Rattle.plane.specs.Tiles.{col_of, row_of, covers}
use Rattle.plane.specs.Paint.{bit}
use Rattle.plane.specs.Cuts.{Inside}
use Rattle.plane.proofs.Tests.{by_bool}
use Rattle.plane.specs.declared.Rect.{Rect}
use Rattle.paint.specs.declared.MaskLine.{MaskLine}
use Rattle.paint.specs.declared.Row.{Row}
use Rattle.paint.specs.declared.Turn.{Turn}
use Rattle.paint.specs.RowPainting.{LineRoom, valid_behind, valid_at}
use Rattle.paint.proofs.Painting.{by-range}
use Rattle.turns.specs.TileOf.{valid_in}
use Rattle.turns.specs.Turned.{MaskWhole, TileWhole, LineOf, RowOf}
use Rattle.turns.specs.declared.Mask.{Mask}
use Rattle.turns.specs.declared.LentTile.{LentTile}

unfoldable pub tile_gives : Rect → LentTile → ℕ → Bool
tile_gives w s p = covers s.place (col_of w p) (row_of w p) && valid_in s.mask (col_of w p - s.place.left) (row_of w p - s.place.top)

unfoldable pub tile_byte : Rect → LentTile → ℕ → ℕ → ℕ
tile_byte w s p j = get_or s.pixels.now (((row_of w p - s.place.top) * s.place.width + (col_of w p - s.place.left)) * s.bytes + j) 0

-- row and column of a pixel of row y
pub in_row : (w y p : ℕ) → y * w ≤ p → p < y * w + w → (p / w ≡ y) × (p % w ≡ p - y * w)
in_row w y p l h =
    subst (λ (z : ℕ). (z / w ≡ y) × (z % w ≡ p - y * w)) (add-sub_of_le l)
    (digits_div y {m = w} {r = p - y * w} (omega arith), digits_mod y {m = w} {r = p - y * w} (omega arith))

-- where part i of n parts of b ends
pub part_end : (i n b : ℕ) → i < n → i * b + b ≤ n * b
part_end i n b h = omega (arith, mul-le-mul_right b h)

module _ (w : Rect) (s : LentTile) (p : ℕ) where
  pub off : (Inside s.place (col_of w p) (row_of w p) → ⊥) → tile_gives w s p ≡ false
  unfolding tile_gives covers
  off n =
      by-range s.place.left (s.place.left + s.place.width) (col_of w p) (λ h. rw (lt-leb _ _ h))
      (λ h i. by-range s.place.top (s.place.top + s.place.height) (row_of w p) (λ j. rw (le-leb _ _ h, lt-ltb _ _ i, lt-leb _ _ j))
      (λ j g. absurd (n (record { left = h; right = i; top = j; bottom = g })))
      (λ j. rw (le-leb _ _ h, lt-ltb _ _ i, le-ltb _ _ j, and-false (leb s.place.top (row_of w p)))))
      (λ h. rw (le-ltb _ _ h, and-false (leb s.place.left (col_of w p))))

  pub here : Inside s.place (col_of w p) (row_of w p) → tile_gives w s p ≡ valid_in s.mask (col_of w p - s.place.left) (row_of w p - s.place.top)
  unfolding tile_gives covers
  here h = rw (le-leb _ _ h.left, lt-ltb _ _ h.right, le-leb _ _ h.top, lt-ltb _ _ h.bottom)

  pub byte-here : {u v : ℕ} → col_of w p - s.place.left ≡ u → row_of w p - s.place.top ≡ v → (j : ℕ)
      → tile_byte w s p j ≡ get_or s.pixels.now ((v * s.place.width + u) * s.bytes + j) 0
  unfolding tile_byte
  byte-here e f j = rw (e, f)

-- ---- the mask's line

module _ (r x : ℕ) where
  valid-line : (k : Mask) (l : MaskLine) → LineOf k r x l → (i : ℕ) → valid_behind (Some l) i ≡ valid_in (Some k) (x + i) r
  unfolding valid_in bit
  valid-line k l e i =
      by_bool (ltb r k.height)
      (λ h. rw (e.column, e.columns, e.bits, h, get_or-drop))
      (λ h. rw (e.column, e.columns, e.bits, h, le-ltb (x + i) 0 (omega arith)))

  valid-mask : (k : Option Mask) (l : Option MaskLine) → MatchOption k (l ≡ None) (λ m. IsSomeAnd l (λ n. LineOf m r x n))
      → (i : ℕ) → valid_behind l i ≡ valid_in k (x + i) r
  unfolding valid_in
  valid-mask (Some k) (Some l) e i = valid-line k l e i
  valid-mask (Some k) None e i = absurd e
  valid-mask None l e i = rw e

  line-room : {k : Mask} {l : MaskLine} {n : ℕ} → LineOf k r x l → MaskWhole k → x + n < 2 ^ 64 → LineRoom l n
  line-room {k} {l} {n} e h f = record {
    bits =
        by_cases (dec_lt r k.height)
        (λ i. let z = part_end r k.height k.stride i in
        rw (e.columns, e.bits, lt-ltb _ _ i, length-drop) (omega (arith, h.stride, h.lines)))
        (λ i. rw (e.columns, le-ltb r k.height (omega arith)) (omega arith));
    columns = rw (e.column) f;
  }

  mask-room : (k : Option Mask) (l : Option MaskLine) (n : ℕ) → MatchOption k (l ≡ None) (λ m. IsSomeAnd l (λ z. LineOf m r x z))
      → IfSome k MaskWhole → x + n < 2 ^ 64 → IfSome l (λ z. LineRoom z n)
  mask-room (Some k) (Some l) n e h f = line-room e h f
  mask-room (Some k) None n e h f = absurd e
  mask-room None l n e h f = rw e h

module _ {s : LentTile} {r x p : ℕ} {q : Turn} {row : Row} (o : RowOf s r x p q row) where
  pub row-valid : (i : ℕ) → valid_at row i ≡ valid_in s.mask (x + i) r
  row-valid i = valid-mask r x s.mask row.mask o.mask i

  pub row-lines : (n : ℕ) → TileWhole s → x + n < 2 ^ 64 → IfSome row.mask (λ l. LineRoom l n)
  row-lines n h f = mask-room r x s.mask row.mask n o.mask h.mask f
