-- The tiles of two entries that say the same, in the same layer: a window cannot tell them apart, nor the lists of those that are chosen. Assumes nothing.
use Prim.Native.Nat.{ℕ, zero, suc, ◌+◌, ◌-◌, ◌*◌, ◌≤◌, ◌<◌}
use mathlib.Core.Path.{◌≡◌, sym, ◌∙◌}
use mathlib.Core.List.{List}
use mathlib.Core.Bool.{Bool, true, false, true≢false}
use native.Mathlib.Omega.{arith}
use lib.Arith.{digits_lt}
use Rattle.format.specs.Choice.{Choice}
use Rattle.format.specs.Entry.{pixel_type, pixel_bytes, is_pyramid, layer_count}
use Rattle.format.specs.SubBlock.{layer_size}
use Rattle.format.specs.declared.Release.{Release}
use Rattle.format.proofs.Below.{by_bool, and_both}
use Rattle.subblocks.specs.Judged.{Judged}
use Rattle.plane.specs.Tiles.{col_of, row_of, covers}
use Rattle.plane.specs.declared.Rect.{Rect}
use Rattle.tiles.specs.FileTile.{rectangle, meets, entry_tile, file_tile, tiles_below}
use Rattle.tiles.proofs.Rectangles.{covered-at, gives_none}
use Rattle.tiles.proofs.EntryTiles.{layer-whole}
use Rattle.equivalent.specs.Same.{SameEntry, SameBlock}
use Rattle.equivalent.proofs.Reading.{same_byte}
use Rattle.equivalent.proofs.Entries.{type-same, rank_same, rectangle-same}
use Rattle.equivalent.proofs.Blocks.{layer-same}
use Rattle.equivalent.proofs.Chunks.{unmasked-same}
use Rattle.plane.proofs.Alike.{Alike, AlikeAll, none as no-tiles, more}

-- ---- one tile

-- of the entries at e of ds₀ and at f of bs₀, which say the same, and of their sub-blocks at q of ds and at p of bs; the first is judged under the release r and
-- has the layer l
module _ {ds₀ : List ℕ} {e : ℕ} {ds : List ℕ} {q : ℕ} {r : Release} {bs₀ : List ℕ} {f : ℕ} {bs : List ℕ} {p : ℕ}
    (s : SameEntry ds₀ e bs₀ f) (t : SameBlock ds₀ e ds q bs₀ f bs p) (j : Judged ds₀ e ds q r) (on : Bool) (l : ℕ)
    (b : l < layer_count ds₀ e) (k : ℕ) where
  at_same : rectangle ds₀ e ≡ rectangle bs₀ f
  at_same = rectangle-same s j.filled.agreed.placed.listed.dimensions

  -- they give the same pixels
  gives-alike : (u v : ℕ) → (entry_tile ds₀ on l k e ds q r).gives u v ≡ (entry_tile bs₀ on l k f bs p r).gives u v
  unfolding entry_tile
  gives-alike u v = rw (unmasked-same t j, at_same)

  -- and of each of them the same bytes
  byte-alike : is_pyramid ds₀ e ≡ false → (u v i : ℕ) → covers (rectangle ds₀ e) u v ≡ true → i < pixel_bytes (pixel_type ds₀ e)
      → (entry_tile ds₀ on l k e ds q r).byte u v i ≡ (entry_tile bs₀ on l k f bs p r).byte u v i
  unfolding entry_tile
  byte-alike whole u v i c h =
      let at = covered-at (rectangle ds₀ e) u v c in
      let place = ((v - (rectangle ds₀ e).top) * (rectangle ds₀ e).width + (u - (rectangle ds₀ e).left)) * pixel_bytes (pixel_type ds₀ e) + i in
      let inside : place < layer_size ds₀ e = rw (layer-whole ds₀ e whole) (digits_lt (digits_lt at.1 at.0) h) in
      rw (← at_same, ← type-same s) (same_byte _ ds _ bs _ (layer-same t s j.filled l b) place inside)

  -- a window cannot tell them apart, where they have n bytes a pixel or do not meet it
  pub tile-alike : is_pyramid ds₀ e ≡ false → (w : Rect) (n : ℕ) → 1 ≤ w.width → (meets (rectangle ds₀ e) w ≡ true → pixel_bytes (pixel_type ds₀ e) ≡ n)
      → Alike w n (entry_tile ds₀ on l k e ds q r) (entry_tile bs₀ on l k f bs p r)
  unfolding entry_tile
  tile-alike whole w n wide typed = record {
    rank = rank_same s k;
    gives = λ x h. gives-alike (col_of w x) (row_of w x);
    byte = λ x i h g o.
        by_bool (meets (rectangle ds₀ e) w)
        (λ m. byte-alike whole (col_of w x) (row_of w x) i (and_both (covers (rectangle ds₀ e) (col_of w x) (row_of w x)) _ g).0 (rw (typed m) o))
        (λ m. absurd (true≢false (sym g ∙ gives_none ds₀ on l k e ds q r w m wide x h)));
  }

-- ---- those that are chosen

pub tiles-alike : (w : Rect) (b : ℕ) (c d : Choice) (f g : ℕ → Bool) (n : ℕ) → ((k : ℕ) → k < n → f k ≡ g k)
    → ((k : ℕ) → k < n → f k ≡ true → Alike w b (file_tile c k) (file_tile d k))
    → AlikeAll w b (tiles_below n c f) (tiles_below n d g)
unfolding tiles_below
tiles-alike w b c d f g zero e t = no-tiles
tiles-alike w b c d f g (suc n) e t =
    let rest = tiles-alike w b c d f g n (λ k h. e k (omega arith)) (λ k h. t k (omega arith)) in
    by_bool (f n) (λ o. rw (← e n (omega arith), o) (more (t n (omega arith) o) rest)) (λ o. rw (← e n (omega arith), o) rest)
