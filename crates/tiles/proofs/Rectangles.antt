-- The rectangle of an entry's tile: its bounds, when it meets a window, and that a tile gives no pixel of a window that it does not meet. Assumes nothing.
use mathlib.Core.Path.{◌≡◌, ◌∙◌}
use Prim.Native.Nat.{ℕ, ◌+◌, ◌-◌, ◌^◌, ◌≤◌, ◌<◌}
use native.Mathlib.Nat.{div-lt_iff_lt-mul, mod-lt}
use native.Mathlib.Omega.{arith}
use mathlib.Core.List.{List}
use mathlib.Core.Bool.{Bool, true, false, ◌&&◌, and-false, true≢false}
use lib.Dec.{leb, ltb}
use lib.ListN.{length}
use borrow.Author.Tests.{lt-ltb, le-ltb, leb-true, ltb-true}
use Rattle.format.specs.declared.Release.{Release}
use Rattle.format.specs.Bytes.{biased}
use Rattle.format.specs.Entry.{start, size, letter_place}
use Rattle.format.proofs.Below.{and_both}
use Rattle.entries.proofs.EntryLaws.{dimensions-ok}
use Rattle.subblocks.specs.Judged.{Listed}
use Rattle.plane.specs.Tiles.{area, col_of, row_of, gives_at, covers}
use Rattle.plane.proofs.Tests.{by_bool}
use Rattle.plane.specs.declared.Rect.{Rect}
use Rattle.tiles.specs.FileTile.{rectangle, meets, entry_tile}

-- ---- X and Y lie in the file, at the places that were read

pub x-in : {ds : List ℕ} {e : ℕ} (d : ℕ) → Listed ds e → d ≡ letter_place ds e 88 → d + 20 ≤ length ds
x-in {ds} {e} d l h = omega (arith, l.entry, (dimensions-ok ds e l.dimensions).x.within)

pub y-in : {ds : List ℕ} {e : ℕ} (d : ℕ) → Listed ds e → d ≡ letter_place ds e 89 → d + 20 ≤ length ds
y-in {ds} {e} d l h = omega (arith, l.entry, (dimensions-ok ds e l.dimensions).y.within)

-- ---- bounds

pub record Bounded (a : Rect) : Type 0 where
  pub right : a.left + a.width < 2 ^ 32
  pub bottom : a.top + a.height < 2 ^ 32
  pub wide : 1 ≤ a.width
  pub high : 1 ≤ a.height

pub rectangle-edges : (bs : List ℕ) (e : ℕ) → Listed bs e → Bounded (rectangle bs e)
unfolding rectangle
rectangle-edges bs e l =
    let p = dimensions-ok bs e l.dimensions in
    record { right = p.x-sized.end; bottom = p.y-sized.end; wide = p.x-sized.size-some; high = p.y-sized.size-some }

-- the rectangle by what was read of X and Y
pub rectangle-is : (ds : List ℕ) (e x y left top width height : ℕ) → x ≡ letter_place ds e 88 → y ≡ letter_place ds e 89
    → left ≡ biased (start ds x) → top ≡ biased (start ds y) → width ≡ size ds x → height ≡ size ds y
    → ◌≡◌ {A = Rect} (record { left = left; top = top; width = width; height = height }) (rectangle ds e)
unfolding rectangle
rectangle-is ds e x y left top width height a b c d f g = rw (c, d, f, g, a, b)

-- of the rectangle that was read
pub read-edges : (bs : List ℕ) (e : ℕ) (a : Rect) → Listed bs e → a ≡ rectangle bs e → Bounded a
read-edges bs e a l h = rw h (rectangle-edges bs e l)

-- ---- two rectangles that meet, and two that do not

module _ (a w : Rect) where
  pub left-of : a.left + a.width ≤ w.left → false ≡ meets a w
  unfolding meets
  left-of h = rw (le-ltb w.left (a.left + a.width) h)

  pub right_of : w.left + w.width ≤ a.left → false ≡ meets a w
  unfolding meets
  right_of h = rw (le-ltb a.left (w.left + w.width) h, and-false)

  pub above : a.top + a.height ≤ w.top → false ≡ meets a w
  unfolding meets
  above h = rw (le-ltb w.top (a.top + a.height) h, and-false)

  pub under : w.top + w.height ≤ a.top → false ≡ meets a w
  unfolding meets
  under h = rw (le-ltb a.top (w.top + w.height) h, and-false, and-false)

  pub meeting : w.left < a.left + a.width → a.left < w.left + w.width → w.top < a.top + a.height → a.top < w.top + w.height → true ≡ meets a w
  unfolding meets
  meeting h i j k =
      rw (lt-ltb w.left (a.left + a.width) h, lt-ltb a.left (w.left + w.width) i)
      (rw (lt-ltb w.top (a.top + a.height) j, lt-ltb a.top (w.top + w.height) k))

-- ---- inside a rectangle, and off the window

-- column and row of a pixel that a rectangle covers
pub covered-at : (a : Rect) (u v : ℕ) → covers a u v ≡ true → (u - a.left < a.width) × (v - a.top < a.height)
unfolding covers
covered-at a u v e =
    let both = and_both (leb a.left u && ltb u (a.left + a.width)) _ e in
    let col = and_both (leb a.left u) _ both.0 in
    let row = and_both (leb a.top v) _ both.1 in
    let left = leb-true a.left u col.0 in
    let right = ltb-true u (a.left + a.width) col.1 in
    let top = leb-true a.top v row.0 in
    let bottom = ltb-true v (a.top + a.height) row.1 in
    (omega arith, omega arith)

-- a rectangle that covers a pixel of the window meets it
covers-meets : (a w : Rect) (p : ℕ) → 1 ≤ w.width → p < area w → covers a (col_of w p) (row_of w p) ≡ true → true ≡ meets a w
unfolding covers
covers-meets a w p h l e =
    let both = and_both (leb a.left (col_of w p) && ltb (col_of w p) (a.left + a.width)) _ e in
    let col = and_both (leb a.left (col_of w p)) _ both.0 in
    let row = and_both (leb a.top (row_of w p)) _ both.1 in
    let left = leb-true a.left (col_of w p) col.0 in
    let right = ltb-true (col_of w p) (a.left + a.width) col.1 in
    let top = leb-true a.top (row_of w p) row.0 in
    let bottom = ltb-true (row_of w p) (a.top + a.height) row.1 in
    let x = mod-lt p h in
    let y = (div-lt_iff_lt-mul h).1 l in
    meeting a w (omega arith) (omega arith) (omega arith) (omega arith)

-- a tile that does not meet the window gives none of its pixels
pub gives_none : (ds : List ℕ) (on : Bool) (l k e : ℕ) (bs : List ℕ) (q : ℕ) (rel : Release) (w : Rect) → meets (rectangle ds e) w ≡ false → 1 ≤ w.width
    → (p : ℕ) → p < area w → gives_at w (entry_tile ds on l k e bs q rel) p ≡ false
unfolding entry_tile
gives_none ds on l k e bs q rel w m h p i =
    by_bool (covers (rectangle ds e) (col_of w p) (row_of w p))
    (λ c. absurd (true≢false (covers-meets (rectangle ds e) w p h i c ∙ m)))
    (λ c. rw c)
