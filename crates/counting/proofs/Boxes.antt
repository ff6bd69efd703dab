-- The summary's box holds every selected tile of an accepted file, and so every covered pixel. Assumes nothing.
use Prim.Native.Nat.{ℕ, zero, suc, ◌^◌, ◌≤◌, ◌<◌, max}
use mathlib.Core.Path.{◌≡◌, refl, sym, ◌∙◌}
use mathlib.Core.List.{List}
use mathlib.Core.Bool.{Bool, true, false, cond, not, true≢false}
use mathlib.Core.Logic.{⊎_elim}
use native.Mathlib.Nat.{eq-or-lt_of_le, le_of_suc-le-suc}
use native.Mathlib.Omega.{arith}
use lib.Dec.{ltb}
use lib.IntN.{pos, ◌-ℤ◌}
use borrow.Author.Tests.{lt-ltb, ltb-true, ltb-false}
use Rattle.std.specs.Prelude.{Some}
use Rattle.format.specs.Bytes.{any_below, biased, shifted, signed32}
use Rattle.format.specs.Entry.{is_pyramid, letter_place}
use Rattle.format.specs.Directory.{tile_count, entry_place}
use Rattle.format.specs.Rules.{verdict, AcceptedFile}
use Rattle.format.specs.Checks.{Accepted}
use Rattle.format.proofs.Below.{any_found}
use Rattle.judge.proofs.AcceptedFile.{accepted-under}
use Rattle.plane.specs.Tiles.{covers, covered}
use Rattle.plane.specs.Cuts.{Inside}
use Rattle.plane.proofs.Partitions.{covers-inside, inside-covers, within_same}
use Rattle.selection.specs.Select.{selects}
use Rattle.tiles.specs.FileTile.{rectangle}
use Rattle.question.specs.Call.{Asked, chosen, selected}
use Rattle.listing.specs.Summary.{plain, greatest_of, near_edge, far_edge, left, top, right, bottom, unshifted, tile_box, bounds_of, summary_of}
use Rattle.listing.proofs.Boxes.{least_at, corners-held}
use Rattle.counting.specs.Claims.{box_of, summary_box, Holds, AllBoxed}
use Rattle.counting.proofs.Uses.{selected-by}

-- ---- a corner as it is answered, and back

signed-shifted : (y : ℕ) → y < 2 ^ 32 → shifted (signed32 y) ≡ biased y
unfolding signed32 biased
signed-shifted y h = go (ltb y (2 ^ 31)) refl
  where
    go : (b : Bool) → ltb y (2 ^ 31) ≡ b → shifted (cond b (pos y) (pos y -ℤ pos (2 ^ 32))) ≡ biased y
    go true e = omega (arith, ltb-true y (2 ^ 31) e)
    go false e = rw (lt-ltb y (2 ^ 32) h) (omega (arith, ltb-false y (2 ^ 31) e))

biased-fits : (x : ℕ) → biased x < 2 ^ 32
unfolding biased
biased-fits x = omega arith

biased-back : (x : ℕ) → x < 2 ^ 32 → biased (biased x) ≡ x
unfolding biased
biased-back x h = omega arith

corner-back : (x : ℕ) → x < 2 ^ 32 → shifted (unshifted x) ≡ x
corner-back x h = signed-shifted (biased x) (biased-fits x) ∙ biased-back x h

-- ---- the greatest of the picked numbers

greatest-at : (n i : ℕ) (pick : ℕ → Bool) (f : ℕ → ℕ) → i < n → pick i ≡ true → f i ≤ greatest_of n pick f
unfolding greatest_of
greatest-at zero i pick f h e = absurd (omega arith)
greatest-at (suc n) i pick f h e =
    ⊎_elim here (λ l. go (pick n) (greatest-at n i pick f l e)) (eq-or-lt_of_le (le_of_suc-le-suc h))
  where
    here : i ≡ n → f i ≤ cond (pick n) (max (f n) (greatest_of n pick f)) (greatest_of n pick f)
    here q = let g : pick n ≡ true = rw (← q) e in rw (g, q) (omega arith)

    go : (b : Bool) → f i ≤ greatest_of n pick f → f i ≤ cond b (max (f n) (greatest_of n pick f)) (greatest_of n pick f)
    go true h = omega arith
    go false h = h

-- ---- a chosen entry of an accepted file

chosen_plain : (a : Asked) (k : ℕ) → chosen a k ≡ true → plain a.scan.file k ≡ true
unfolding selects plain
chosen_plain a k h = go (is_pyramid a.scan.file (entry_place a.scan.file k)) _ h
  where
    go : (b s : Bool) → cond b false s ≡ true → not b ≡ true
    go true s h = absurd (true≢false (sym h))
    go false s h = refl

-- the box by its corners as they are compared
pub record Cornered (bs : List ℕ) : Type 0 where
  pub box-is : (summary_of bs).bounds ≡ Some (tile_box (left bs) (top bs) (right bs) (bottom bs))
  pub left_is : shifted (unshifted (left bs)) ≡ left bs
  pub top-is : shifted (unshifted (top bs)) ≡ top bs
  pub right_is : shifted (unshifted (right bs)) ≡ right bs
  pub bottom-is : shifted (unshifted (bottom bs)) ≡ bottom bs

module _ (bs : List ℕ) (h : AcceptedFile bs) (k : ℕ) (l : k < tile_count bs) (p : plain bs k ≡ true) where
  some-plain : any_below (tile_count bs) (plain bs) ≡ true
  some-plain = any_found (tile_count bs) k (plain bs) l p

  cornered : Cornered bs
  unfolding summary_of bounds_of
  cornered =
      let c = corners-held bs h some-plain in
      record {
        box-is = rw some-plain;
        left_is = corner-back _ c.left_fits;
        top-is = corner-back _ c.top_fits;
        right_is = corner-back _ c.right_fits;
        bottom-is = corner-back _ c.bottom_fits;
      }

  -- the tile's edges lie between the corners
  in-corners : (u v : ℕ) → Inside (rectangle bs (entry_place bs k)) u v → (left bs ≤ u) × (u < right bs) × (top bs ≤ v) × (v < bottom bs)
  unfolding rectangle left top right bottom near_edge far_edge
  in-corners u v i =
      let n = tile_count bs in
      let x : ℕ → ℕ = λ j. letter_place bs (entry_place bs j) 88 in
      let y : ℕ → ℕ = λ j. letter_place bs (entry_place bs j) 89 in
      let a = least_at n k (plain bs) (λ j. near_edge bs (x j)) l p in
      let b = greatest-at n k (plain bs) (λ j. far_edge bs (x j)) l p in
      let c = least_at n k (plain bs) (λ j. near_edge bs (y j)) l p in
      let d = greatest-at n k (plain bs) (λ j. far_edge bs (y j)) l p in
      (omega (arith, a, i.left), omega (arith, b, i.right), omega (arith, c, i.top), omega (arith, d, i.bottom))

  box-holds : Holds (box_of (summary_of bs).bounds) (rectangle bs (entry_place bs k))
  box-holds u v e =
      let c = cornered in
      let i = in-corners u v (covers-inside (rectangle bs (entry_place bs k)) u v e) in
      rw c.box-is
      (inside-covers _ u v
      (record {
        left = omega (arith, c.left_is, i.0);
        right = omega (arith, c.left_is, c.right_is, i.0, i.1);
        top = omega (arith, c.top-is, i.2);
        bottom = omega (arith, c.top-is, c.bottom-is, i.2, i.3);
      }))

-- ---- of what a question selects

module _ (a : Asked) (h : verdict a.scan ≡ Accepted) where
  file-accepted : AcceptedFile a.scan.file
  file-accepted = accepted-under a.scan.file a.scan.release h

  in-box : (u v : ℕ) → covered (selected a) u v ≡ true → covers (summary_box a.scan) u v ≡ true
  in-box u v e =
      let i = selected-by a u v e in
      box-holds a.scan.file file-accepted i.entry i.below (chosen_plain a i.entry i.is-chosen) u v i.covers-it

pub all-boxed : AllBoxed
all-boxed a h = record {
  some = λ k l c. (cornered a.scan.file (file-accepted a h) k l (chosen_plain a k c)).box-is;
  holds = λ k l c. box-holds a.scan.file (file-accepted a h) k l (chosen_plain a k c);
  covered_in = in-box a h;
  outside = λ w w' s. within_same w w' (covered (selected a)) (λ u v e. s u v (in-box a h u v e));
  whole = λ w s.
      within_same w (summary_box a.scan) (covered (selected a)) (λ u v e. let i = in-box a h u v e in s u v i ∙ sym i);
}
