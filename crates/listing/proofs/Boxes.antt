-- The box of the tiles: one tile more, its corners are Ints, and the loop that takes the tiles in. Assumes nothing.
use Prim.Native.Nat.{ℕ, zero, suc, ◌+◌, ◌^◌, ◌≤◌, ◌<◌, min, max}
use mathlib.Core.Path.{◌≡◌, refl, ◌∙◌}
use mathlib.Core.List.{List}
use mathlib.Core.Bool.{Bool, true, false, cond, or-false}
use mathlib.Core.Logic.{⊎_elim}
use native.Mathlib.Omega.{arith}
use native.Mathlib.Numerals.{add-one}
use native.Mathlib.Nat.{eq-or-lt_of_le, le_of_suc-le-suc}
use Rattle.std.specs.Prelude.{Option, Some, None}
use Rattle.format.specs.Bytes.{any_below, least_below, biased}
use Rattle.format.specs.Entry.{next_entry, letter_place, is_pyramid}
use Rattle.format.specs.Directory.{tile_count, entry_place}
use Rattle.format.specs.Rules.{AcceptedFile}
use Rattle.format.proofs.Below.{any_none, any-intro, least-is}
use Rattle.entries.proofs.EntryLaws.{Planed, dimensions-ok}
use Rattle.judge.proofs.AcceptedFile.{tiled-file}
use Rattle.judge.proofs.EntryLoop.{AtEntry, at-start, at_next}
use Rattle.listing.specs.Summary.{plain, least_of, greatest_of, near_edge, far_edge, left, top, right, bottom}
use Rattle.listing.specs.Figures.{tile_corners, corners_below, with_tile}
use Rattle.listing.specs.declared.Corners.{Corners}

-- ---- the least and the greatest

pub least_at : (n i : ℕ) (pick : ℕ → Bool) (f : ℕ → ℕ) → i < n → pick i ≡ true → least_of n pick f ≤ f i
unfolding least_of
least_at zero i pick f h e = absurd (omega arith)
least_at (suc n) i pick f h e =
    ⊎_elim here (λ l. go (pick n) (least_at n i pick f l e)) (eq-or-lt_of_le (le_of_suc-le-suc h))
  where
    here : i ≡ n → cond (pick n) (min (f n) (least_of n pick f)) (least_of n pick f) ≤ f i
    here q = let g : pick n ≡ true = rw (← q) e in rw (g, q) (omega arith)

    go : (b : Bool) → least_of n pick f ≤ f i → cond b (min (f n) (least_of n pick f)) (least_of n pick f) ≤ f i
    go true h = omega arith
    go false h = h

pub greatest-below : (n b : ℕ) (pick : ℕ → Bool) (f : ℕ → ℕ) → 0 < b → ((k : ℕ) → k < n → f k < b) → greatest_of n pick f < b
unfolding greatest_of
greatest-below zero b pick f p h = p
greatest-below (suc n) b pick f p h = go (pick n) (h n (omega arith)) (greatest-below n b pick f p (λ k l. h k (omega arith)))
  where
    go : (t : Bool) → f n < b → greatest_of n pick f < b → cond t (max (f n) (greatest_of n pick f)) (greatest_of n pick f) < b
    go true l g = omega arith
    go false l g = g

-- none is picked

unpicked : (n : ℕ) (pick : ℕ → Bool) → any_below (suc n) pick ≡ false → (any_below n pick ≡ false) × (pick n ≡ false)
unpicked n pick e = (any-intro n pick (λ i l. any_none (suc n) i pick e (omega arith)), any_none (suc n) n pick e (omega arith))

least-unpicked : (n : ℕ) (pick : ℕ → Bool) (f : ℕ → ℕ) → any_below n pick ≡ false → least_of n pick f ≡ 4294967296
unfolding any_below least_of
least-unpicked zero pick f h = refl
least-unpicked (suc n) pick f h = let e = unpicked n pick h in rw e.1 (least-unpicked n pick f e.0)

greatest-unpicked : (n : ℕ) (pick : ℕ → Bool) (f : ℕ → ℕ) → any_below n pick ≡ false → greatest_of n pick f ≡ 0
unfolding any_below greatest_of
greatest-unpicked zero pick f h = refl
greatest-unpicked (suc n) pick f h = let e = unpicked n pick h in rw e.1 (greatest-unpicked n pick f e.0)

-- ---- one tile more

abbrev corners : ℕ → ℕ → ℕ → ℕ → Corners
corners l t r b = record { left = l; top = t; right = r; bottom = b }

near_fits : (bs : List ℕ) (d : ℕ) → near_edge bs d < 2 ^ 32
unfolding near_edge biased
near_fits bs d = omega arith

-- the first tile's corners are the box's
only : (l t r b : ℕ) → l < 2 ^ 32 → t < 2 ^ 32
    → Some (corners l t r b) ≡ Some (corners (min l 4294967296) (min t 4294967296) (max r 0) (max b 0))
only l t r b h i =
    let e : min l 4294967296 ≡ l = omega arith in
    let f : min t 4294967296 ≡ t = omega arith in
    let g : max r 0 ≡ r = omega arith in
    let k : max b 0 ≡ b = omega arith in
    rw (e, f, g, k)

pub corners-next : (bs : List ℕ) (k : ℕ) → with_tile bs (entry_place bs k) (corners_below bs k) ≡ corners_below bs (k + 1)
unfolding with_tile tile_corners corners_below least_of greatest_of any_below plain
corners-next bs k = rw add-one (go (is_pyramid bs (entry_place bs k)) refl (any_below k (plain bs)) refl)
  where
    go : (b : Bool) → is_pyramid bs (entry_place bs k) ≡ b → (a : Bool) → any_below k (plain bs) ≡ a
        → with_tile bs (entry_place bs k) (corners_below bs k) ≡ corners_below bs (suc k)
    go true e a f = rw (e, or-false)
    go false e true f = rw (e, f)
    go false e false f =
        rw (
          e,
          f,
          least-unpicked k (plain bs) (λ k. near_edge bs (letter_place bs (entry_place bs k) 88)) f,
          least-unpicked k (plain bs) (λ k. near_edge bs (letter_place bs (entry_place bs k) 89)) f,
          greatest-unpicked k (plain bs) (λ k. far_edge bs (letter_place bs (entry_place bs k) 88)) f,
          greatest-unpicked k (plain bs) (λ k. far_edge bs (letter_place bs (entry_place bs k) 89)) f,
        )
        (only _ _ _ _ (near_fits bs _) (near_fits bs _))

-- ---- the corners are Ints

-- the least near edge of the picked numbers, where there is one
least-near : (bs : List ℕ) (n : ℕ) (pick : ℕ → Bool) (place : ℕ → ℕ) → any_below n pick ≡ true
    → least_of n pick (λ k. near_edge bs (place k)) < 2 ^ 32
least-near bs n pick place h =
    let l = least-is n pick h in
    let k = least_below n pick in
    omega (arith, least_at n k pick (λ k. near_edge bs (place k)) l.below l.holds, near_fits bs (place k))

-- where there is a tile, each corner less 2 ^ 31 is an Int
pub record Held (bs : List ℕ) : Type 0 where
  pub left_fits : left bs < 2 ^ 32
  pub top_fits : top bs < 2 ^ 32
  pub right_fits : right bs < 2 ^ 32
  pub bottom_fits : bottom bs < 2 ^ 32

pub corners-held : (bs : List ℕ) → AcceptedFile bs → any_below (tile_count bs) (plain bs) ≡ true → Held bs
unfolding left top right bottom far_edge
corners-held bs h some =
    let n = tile_count bs in
    record {
      left_fits = least-near bs n (plain bs) (λ k. letter_place bs (entry_place bs k) 88) some;
      top_fits = least-near bs n (plain bs) (λ k. letter_place bs (entry_place bs k) 89) some;
      right_fits = greatest-below n (2 ^ 32) (plain bs) _ (omega arith) (λ k l. (planed k l).x-sized.end);
      bottom_fits = greatest-below n (2 ^ 32) (plain bs) _ (omega arith) (λ k l. (planed k l).y-sized.end);
    }
  where
    planed : (k : ℕ) → k < tile_count bs → Planed bs (entry_place bs k)
    planed k l = dimensions-ok bs (entry_place bs k) ((tiled-file bs h).listed k l).dimensions

-- ---- the loop over the tiles: those below k are in the box c, and the next entry is at e

pub record Boxing (bs : List ℕ) (n : ℕ) (c : Option Corners) (e k : ℕ) : Type 0 where
  pub at : AtEntry bs n e k
  pub corners : c ≡ corners_below bs k

pub boxing-start : (bs : List ℕ) (n e : ℕ) → e ≡ entry_place bs 0
    → Boxing bs n None e 0
unfolding corners_below any_below
boxing-start bs n e p = record { at = at-start bs n e p; corners = refl }

module _ (bs : List ℕ) (n : ℕ) (c : Option Corners) (e k : ℕ) (i : Boxing bs n c e k) where
  pub boxing-next : (r : Option Corners) (p : ℕ) → k < n → r ≡ with_tile bs e c → p ≡ next_entry bs e → Boxing bs n r p (k + 1)
  boxing-next r p l f g = record {
    at = at_next bs n e k i.at p l g;
    corners = f ∙ rw (i.corners, i.at.place) (corners-next bs k);
  }

  pub boxing-end : n ≤ k → c ≡ corners_below bs n
  boxing-end h = let f : k ≡ n = omega (arith, i.at.count) in rw f at i.corners
