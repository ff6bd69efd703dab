-- The ranks of a file's tiles: no two entries below 4,096 have the same. Assumes nothing.
use Prim.Native.Nat.{ℕ, zero, suc, ◌+◌, ◌*◌, ◌%◌, ◌≤◌, ◌<◌}
use mathlib.Core.Path.{◌≡◌, sym, ap, ◌∙◌}
use mathlib.Core.Logic.{⊎_elim}
use mathlib.Core.List.Memᴰ
use mathlib.Core.List.{List, ◌∷◌, Memᴰ}
use mathlib.Core.Bool.{Bool, true, false, cond}
use native.Mathlib.Omega.{arith}
use Rattle.format.specs.Choice.{Choice}
use Rattle.format.specs.Bytes.{any_below, biased}
use Rattle.format.specs.Entry.{dimension_count, start, has_letter, letter_place}
use Rattle.format.specs.Directory.{entry_place}
use Rattle.plane.specs.Tiles.{Tile, Ranked}
use Rattle.tiles.specs.FileTile.{rank_of, entry_tile, file_tile, tiles_below}

-- a rank shows its entry's number
pub rank-entry : (bs : List ℕ) (k e : ℕ) → k < 4096 → rank_of bs k e % 4096 ≡ k
unfolding rank_of
rank-entry bs k e h = go (any_below (dimension_count bs e) (has_letter bs e 77)) (biased (start bs (letter_place bs e 77)))
  where
    go : (b : Bool) (x : ℕ) → cond b ((x + 1) * 4096 + k) k % 4096 ≡ k
    go true x = omega arith
    go false x = omega arith

module _ (ch : Choice) where
  pub tile-rank : (k : ℕ) → k < 4096 → (file_tile ch k).rank % 4096 ≡ k
  unfolding file_tile entry_tile
  tile-rank k h = rank-entry ch.scan.file k (entry_place ch.scan.file k) h

  -- the tile is that of an entry below n
  pub record Entry (n : ℕ) (s : Tile) : Type 0 where
    pub number : ℕ
    pub below : number < n
    pub tile : s ≡ file_tile ch number

  later : {n : ℕ} {s : Tile} → Entry n s → Entry (suc n) s
  later i = record { number = i.number; below = omega (arith, i.below); tile = i.tile }

module _ (ch : Choice) (chosen : ℕ → Bool) where
  pub tiles-entry : (n : ℕ) {s : Tile} → Memᴰ s (tiles_below n ch chosen) → Entry ch n s
  unfolding tiles_below
  tiles-entry zero m = absurd (Memᴰ.not-nil m)
  tiles-entry (suc n) {s} m = go (chosen n) (λ m. later ch (tiles-entry n m)) m
    where
      go : (b : Bool) → (Memᴰ s (tiles_below n ch chosen) → Entry ch (suc n) s)
          → Memᴰ s (cond b (file_tile ch n ∷ tiles_below n ch chosen) (tiles_below n ch chosen)) → Entry ch (suc n) s
      go true lower m = ⊎_elim (λ e. record { number = n; below = omega arith; tile = e }) lower (Memᴰ.cases_cons m)
      go false lower m = lower m

  -- the tile of entry n has another rank than those of the entries below it
  apart : (n : ℕ) → n < 4096 → (s : Tile) → Memᴰ s (tiles_below n ch chosen) → (file_tile ch n).rank ≡ s.rank → ⊥
  apart n h s m e =
      let i = tiles-entry n m in
      let l : i.number < n = i.below in
      let q : n ≡ i.number =
      sym (tile-rank ch n h) ∙ ap (λ (r : ℕ). r % 4096) (e ∙ ap (λ (t : Tile). t.rank) i.tile) ∙ tile-rank ch i.number (omega arith) in
      omega arith

  pub tiles-ranked : (n : ℕ) → n ≤ 4096 → Ranked (tiles_below n ch chosen)
  unfolding tiles_below
  tiles-ranked zero h = tt
  tiles-ranked (suc n) h = go (chosen n) (tiles-ranked n (omega arith))
    where
      go : (b : Bool) → Ranked (tiles_below n ch chosen) → Ranked (cond b (file_tile ch n ∷ tiles_below n ch chosen) (tiles_below n ch chosen))
      go true r = (apart n (omega arith), r)
      go false r = r
