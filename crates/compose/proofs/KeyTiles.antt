-- Keys and the tiles that they stand for: the tiles along the keys are the chosen ones that meet the window, lowest first. Assumes nothing.
use Prim.Native.Nat.{ℕ, zero, suc, ◌%◌, ◌≤◌, ◌<◌}
use mathlib.Core.Path.{◌≡◌, refl, ap, ◌∙◌}
use mathlib.Core.List.{List, [], ◌∷◌, map}
use mathlib.Core.Bool.{Bool, true, false, cond}
use native.Mathlib.Omega.{arith}
use lib.ListN.{length, get_or}
use lib.Dec.{leb}
use Rattle.format.specs.Choice.{Choice}
use Rattle.format.specs.Directory.{entry_place}
use Rattle.plane.specs.Tiles.{Tile}
use Rattle.plane.specs.Turns.{Kind, plain, quick, below, insert, bottom_first, order}
use Rattle.plane.proofs.Skip.{keep}
use Rattle.plane.specs.declared.Rect.{Rect}
use Rattle.keys.specs.Keys.{insert_key}
use Rattle.tiles.specs.FileTile.{rank_of, rectangle, meets, entry_tile, file_tile, tiles_below}
use Rattle.question.proofs.Ranks.{rank-entry}
use Rattle.compose.specs.Steps.{chosen_in, takes_turn, keys_below, tile_of_key, turn_order}

-- ---- ranks

pub file-rank : (ch : Choice) (k : ℕ) → (file_tile ch k).rank ≡ rank_of ch.scan.file k (entry_place ch.scan.file k)
unfolding file_tile entry_tile
file-rank ch k = refl

below-is : (s t : Tile) (a b : ℕ) → s.rank ≡ a → t.rank ≡ b → below s t ≡ leb a b
unfolding below
below-is s t a b e f = rw (e, f)

-- ---- the keys of the entries of the file bs

module _ (bs table : List ℕ) (w : Rect) where
  abbrev keys : ℕ → List ℕ
  keys n = keys_below n bs table w

  abbrev turns : ℕ → Bool
  turns = takes_turn bs table w

  abbrev rank : ℕ → ℕ
  rank n = rank_of bs n (entry_place bs n)

  -- what a key of an entry below n is: the rank of that entry's tile, which takes a turn
  pub record Key (n q : ℕ) : Type 0 where
    pub within : q % 4096 < n
    pub rank : rank_of bs (q % 4096) (entry_place bs (q % 4096)) ≡ q
    pub turn : turns (q % 4096) ≡ true

  abbrev pub Keys : ℕ → List ℕ → Type 0
  Keys n [] = Unit {0}
  Keys n (q ∷ l) = Key n q × Keys n l

  later : (n q : ℕ) → Key n q → Key (suc n) q
  later n q k = record { within = omega (arith, k.within); rank = k.rank; turn = k.turn }

  laters : (n : ℕ) (l : List ℕ) → Keys n l → Keys (suc n) l
  laters n [] ks = tt
  laters n (q ∷ l) ks = (later n q ks.0, laters n l ks.1)

  inserted : (n r : ℕ) (l : List ℕ) → Key n r → Keys n l → Keys n (insert_key r l)
  unfolding insert_key
  inserted n r [] k ks = (k, tt)
  inserted n r (q ∷ l) k ks = go (leb r q) (inserted n r l k ks.1)
    where
      go : (b : Bool) → Keys n (insert_key r l) → Keys n (cond b (r ∷ q ∷ l) (q ∷ insert_key r l))
      go true i = (k, ks)
      go false i = (ks.0, i)

  new-key : (n : ℕ) → n < 4096 → turns n ≡ true → Key (suc n) (rank n)
  new-key n h t = let e = rank-entry bs n (entry_place bs n) h in record { within = omega (arith, e); rank = rw e; turn = rw e t }

  pub keys_in : (n : ℕ) → n ≤ 4096 → Keys n (keys n)
  unfolding keys_below
  keys_in zero h = tt
  keys_in (suc n) h = go (turns n) refl (laters n (keys n) (keys_in n (omega arith)))
    where
      go : (b : Bool) → turns n ≡ b → Keys (suc n) (keys n)
          → Keys (suc n) (cond b (insert_key (rank n) (keys n)) (keys n))
      go true e ks = inserted (suc n) (rank n) (keys n) (new-key n (omega arith) e) ks
      go false e ks = ks

  -- the key at a place
  pub key-at : (n : ℕ) (l : List ℕ) → Keys n l → (i : ℕ) → i < length l → Key n (get_or l i 0)
  key-at n [] ks i h = absurd (omega arith)
  key-at n (q ∷ l) ks zero h = ks.0
  key-at n (q ∷ l) ks (suc i) h = key-at n l ks.1 i (omega arith)

-- ---- the tiles along the keys

module _ (ch : Choice) (table : List ℕ) (w : Rect) where
  abbrev bs : List ℕ
  bs = ch.scan.file

  abbrev keys_of : ℕ → List ℕ
  keys_of n = keys_below n bs table w

  abbrev turns_of : ℕ → Bool
  turns_of = takes_turn bs table w

  abbrev KeyOf : ℕ → ℕ → Type 0
  KeyOf = Key bs table w

  abbrev KeysOf : ℕ → List ℕ → Type 0
  KeysOf = Keys bs table w

  key-rank : (n q : ℕ) → KeyOf n q → (tile_of_key ch q).rank ≡ q
  key-rank n q k = file-rank ch (q % 4096) ∙ k.rank

  map-insert : (n r : ℕ) (l : List ℕ) → KeyOf n r → KeysOf n l → map (tile_of_key ch) (insert_key r l) ≡ insert (tile_of_key ch r) (map (tile_of_key ch) l)
  unfolding insert_key insert
  map-insert n r [] k ks = refl
  map-insert n r (q ∷ l) k ks =
      let e : below (tile_of_key ch r) (tile_of_key ch q) ≡ leb r q = below-is _ _ r q (key-rank n r k) (key-rank n q ks.0) in
      rw e (go (leb r q) (map-insert n r l k ks.1))
    where
      go : (b : Bool) → map (tile_of_key ch) (insert_key r l) ≡ insert (tile_of_key ch r) (map (tile_of_key ch) l)
          → map (tile_of_key ch) (cond b (r ∷ q ∷ l) (q ∷ insert_key r l))
          ≡ cond b (tile_of_key ch r ∷ tile_of_key ch q ∷ map (tile_of_key ch) l) (tile_of_key ch q ∷ insert (tile_of_key ch r) (map (tile_of_key ch) l))
      go true i = refl
      go false i = ap (λ (x : List Tile). tile_of_key ch q ∷ x) i

  pub key-tiles : (n : ℕ) → n ≤ 4096 → map (tile_of_key ch) (keys_of n) ≡ bottom_first (tiles_below n ch turns_of)
  unfolding keys_below tiles_below bottom_first
  key-tiles zero h = refl
  key-tiles (suc n) h = go (turns_of n) refl (key-tiles n (omega arith))
    where
      go : (b : Bool) → turns_of n ≡ b → map (tile_of_key ch) (keys_of n) ≡ bottom_first (tiles_below n ch turns_of)
          → map (tile_of_key ch) (cond b (insert_key (rank bs table w n) (keys_of n)) (keys_of n))
          ≡ bottom_first (cond b (file_tile ch n ∷ tiles_below n ch turns_of) (tiles_below n ch turns_of))
      go true e i =
          map-insert (suc n) (rank bs table w n) (keys_of n) (new-key bs table w n (omega arith) e)
          (laters bs table w n (keys_of n) (keys_in bs table w n (omega arith)))
          ∙ rw (rank-entry bs n (entry_place bs n) (omega arith), i)
      go false e i = i

  -- ---- the tiles that take a turn are the chosen ones that meet the window

  -- by its rank a tile shows its entry, and so its rectangle
  abbrev pub meets_window : Tile → Bool
  meets_window t = meets (rectangle bs (entry_place bs (t.rank % 4096))) w

  pub file-meets : (k : ℕ) → k < 4096 → meets_window (file_tile ch k) ≡ meets (rectangle bs (entry_place bs k)) w
  file-meets k h = rw (file-rank ch k, rank-entry bs k (entry_place bs k) h)

  pub turn-tiles : (n : ℕ) → n ≤ 4096 → tiles_below n ch turns_of ≡ keep meets_window (tiles_below n ch (chosen_in table))
  unfolding tiles_below keep
  turn-tiles zero h = refl
  turn-tiles (suc n) h = go (chosen_in table n) (meets (rectangle bs (entry_place bs n)) w) (file-meets n (omega arith)) (turn-tiles n (omega arith))
    where
      go : (b m : Bool) → meets_window (file_tile ch n) ≡ m → tiles_below n ch turns_of ≡ keep meets_window (tiles_below n ch (chosen_in table))
          → cond (cond b m false) (file_tile ch n ∷ tiles_below n ch turns_of) (tiles_below n ch turns_of)
          ≡ keep meets_window (cond b (file_tile ch n ∷ tiles_below n ch (chosen_in table)) (tiles_below n ch (chosen_in table)))
      go true true e i = rw e (ap (λ (x : List Tile). file_tile ch n ∷ x) i)
      go true false e i = rw e i
      go false m e i = i

-- only the choice below n counts
pub tiles-ext : (n : ℕ) (ch : Choice) (c d : ℕ → Bool) → ((k : ℕ) → k < n → c k ≡ d k) → tiles_below n ch c ≡ tiles_below n ch d
unfolding tiles_below
tiles-ext zero ch c d h = refl
tiles-ext (suc n) ch c d h = rw (h n (omega arith), tiles-ext n ch c d (λ k l. h k (omega arith)))

-- each kind's order along the lowest first is its order of the tiles
pub turn-order : (k : Kind) (ts : List Tile) → turn_order k (bottom_first ts) ≡ order k ts
turn-order plain ts = refl
turn-order quick ts = refl
