-- Sharing a pixel is right: a rectangle and a window share one exactly when there is one that both cover. Assumes nothing.
use Prim.Native.Nat.{ℕ, ◌+◌, ◌≤◌, ◌<◌, max}
use mathlib.Core.Path.{◌≡◌, sym}
use mathlib.Core.Bool.{true, ◌&&◌}
use native.Mathlib.Omega.{arith}
use lib.Dec.{ltb}
use borrow.Author.Tests.{lt-ltb, ltb-true}
use Rattle.format.specs.Scan.{Scan}
use Rattle.format.specs.Directory.{tile_count}
use Rattle.format.specs.Records.{tile_entry}
use Rattle.format.specs.Rules.{verdict}
use Rattle.format.specs.Checks.{Accepted}
use Rattle.format.proofs.Below.{and_both}
use Rattle.judge.proofs.AcceptedFile.{tiled}
use Rattle.plane.specs.declared.Rect.{Rect}
use Rattle.plane.proofs.Partitions.{covers-inside, inside-covers}
use Rattle.tiles.specs.FileTile.{rectangle, meets}
use Rattle.tiles.proofs.Rectangles.{Bounded, rectangle-edges, meeting}
use Rattle.counting.specs.Chosen.{shares, selects_at, meets_at}
use Rattle.counting.specs.Claims.{Shared, Sharing, Meeting, TileSharing}

module _ (a w : Rect) where
  -- the pixel in the greater left and the greater top
  shares-shared : 1 ≤ a.width → 1 ≤ a.height → shares a w ≡ true → Shared a w
  unfolding shares meets
  shares-shared h i e =
      let all = and_both (ltb 0 w.width && ltb 0 w.height) _ e in
      let side = and_both (ltb 0 w.width) _ all.0 in
      let edge = and_both (ltb w.left (a.left + a.width) && ltb a.left (w.left + w.width)) _ all.1 in
      let x = and_both (ltb w.left (a.left + a.width)) _ edge.0 in
      let y = and_both (ltb w.top (a.top + a.height)) _ edge.1 in
      let wide = ltb-true 0 w.width side.0 in
      let high = ltb-true 0 w.height side.1 in
      let x₀ = ltb-true w.left (a.left + a.width) x.0 in
      let x₁ = ltb-true a.left (w.left + w.width) x.1 in
      let y₀ = ltb-true w.top (a.top + a.height) y.0 in
      let y₁ = ltb-true a.top (w.top + w.height) y.1 in
      let u = max a.left w.left in
      let v = max a.top w.top in
      record {
        u = u;
        v = v;
        first = inside-covers a u v (record { left = omega arith; right = omega arith; top = omega arith; bottom = omega arith });
        second = inside-covers w u v (record { left = omega arith; right = omega arith; top = omega arith; bottom = omega arith });
      }

  pub shared-shares : Shared a w → shares a w ≡ true
  unfolding shares
  shared-shares s =
      let i = covers-inside a s.u s.v s.first in
      let j = covers-inside w s.u s.v s.second in
      let wide : 0 < w.width = omega (arith, j.left, j.right) in
      let high : 0 < w.height = omega (arith, j.top, j.bottom) in
      rw (lt-ltb 0 w.width wide, lt-ltb 0 w.height high)
      (sym
      (meeting a w
      (omega (arith, i.right, j.left))
      (omega (arith, i.left, j.right))
      (omega (arith, i.bottom, j.top))
      (omega (arith, i.top, j.bottom))))

pub meeting-is : Meeting
unfolding shares
meeting-is a w h i = rw (lt-ltb 0 w.width h, lt-ltb 0 w.height i)

pub sharing : Sharing
sharing a w h i = (shares-shared a w h i, shared-shares a w)

-- ---- of a tile of an accepted file

tile-sides : (sc : Scan) → verdict sc ≡ Accepted → (k : ℕ) → k < tile_count sc.file → Bounded (rectangle sc.file (tile_entry sc k))
tile-sides sc h k l = rectangle-edges sc.file (tile_entry sc k) ((tiled sc h).tile k l).filled.agreed.placed.listed

pub tile-sharing : TileSharing
unfolding meets_at
tile-sharing q h k l =
    let e = tile_entry q.scan k in
    let a = rectangle q.scan.file e in
    let b = tile-sides q.scan h k l in (
      λ m. let p = and_both (selects_at q e) _ m in (p.0, shares-shared a q.window b.wide b.high p.1),
      λ m. rw m.0 (shared-shares a q.window m.1),
    )
