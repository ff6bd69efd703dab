-- The loop that gathers the keys of the entries that take a turn. Assumes nothing.
use Prim.Native.Nat.{ℕ, zero, suc, ◌+◌, ◌%◌, ◌^◌, ◌≤◌, ◌<◌}
use mathlib.Core.Path.{◌≡◌, refl, ap, ◌∙◌}
use mathlib.Core.List.{List}
use mathlib.Core.Bool.{Bool, true, false, cond, not}
use native.Mathlib.Omega.{arith}
use native.Mathlib.Numerals.{add-one}
use lib.ListN.{length, get_or}
use lib.Dec.{eqb}
use borrow.Author.Tests.{eqb-false}
use Rattle.format.specs.Directory.{tile_count, entry_place}
use Rattle.plane.specs.declared.Rect.{Rect}
use Rattle.keys.specs.Keys.{insert_key, Rising}
use Rattle.keys.proofs.KeyLaws.{rising-insert}
use Rattle.subblocks.specs.Judged.{Listed}
use Rattle.tiles.specs.FileTile.{rank_of, rectangle, meets}
use Rattle.tiles.proofs.Rectangles.{read-edges}
use Rattle.question.proofs.Ranks.{rank-entry}
use Rattle.compose.specs.Steps.{Chosen, Edges, takes_turn, keys_below, Gathered, AddRoom, Added}
use Rattle.compose.proofs.KeyTiles.{keys_in, key-at}
use Rattle.compose.proofs.Agreeing.{table-few, table-place, table-listed}

-- the edges of a rectangle that was read, and of the window, fit
pub edges-read : {bs : List ℕ} {e : ℕ} (a w : Rect) → Listed bs e → a ≡ rectangle bs e → Edges w
    → (a.left + a.width < 2 ^ 64) × (a.top + a.height < 2 ^ 64) × (w.left + w.width < 2 ^ 64) × (w.top + w.height < 2 ^ 64)
edges-read {bs} {e} a w l h f =
    let g = read-edges bs e a l h in
    (omega (arith, g.right), omega (arith, g.bottom), omega (arith, f.right), omega (arith, f.bottom))

-- ---- the keys rise

pub keys-rising : (n : ℕ) (bs table : List ℕ) (w : Rect) → n ≤ 4096 → Rising (keys_below n bs table w)
unfolding keys_below
keys-rising zero bs table w h = λ i j u k. absurd (omega arith)
keys-rising (suc n) bs table w h = go (takes_turn bs table w n) (keys-rising n bs table w (omega arith))
  where
    new : (i : ℕ) → i < length (keys_below n bs table w) → get_or (keys_below n bs table w) i 0 ≡ rank_of bs n (entry_place bs n) → ⊥
    new i k e =
        let q = (key-at bs table w n (keys_below n bs table w) (keys_in bs table w n (omega arith)) i k).within in
        let s : get_or (keys_below n bs table w) i 0 % 4096 ≡ n = ap (λ (x : ℕ). x % 4096) e ∙ rank-entry bs n (entry_place bs n) (omega arith) in
        omega (arith, q, s)

    go : (b : Bool) → Rising (keys_below n bs table w)
        → Rising (cond b (insert_key (rank_of bs n (entry_place bs n)) (keys_below n bs table w)) (keys_below n bs table w))
    go true i = rising-insert (rank_of bs n (entry_place bs n)) (keys_below n bs table w) i (λ a. new a.0 a.1 a.2)
    go false i = i

-- ---- the loop

pub record GatheredBelow (n : ℕ) (bs table : List ℕ) (w : Rect) (keys : List ℕ) (count k : ℕ) : Type 0 where
  pub most : k ≤ n
  pub gathered : Gathered k bs table w keys count

pub gather-start : (n : ℕ) (bs table : List ℕ) (w : Rect) (keys : List ℕ) → length keys ≡ 4096 → GatheredBelow n bs table w keys 0 0
unfolding keys_below
gather-start n bs table w keys e = record { most = omega arith; gathered = record { size = e; few = omega arith; keys_are = refl } }

module _ {bs table : List ℕ} (c : Chosen bs table) {n : ℕ} (e : n ≡ tile_count bs) {w : Rect} {keys : List ℕ} {count k : ℕ}
    (g : GatheredBelow n bs table w keys count k) where
  pub add-room : Edges w → k < n → AddRoom bs keys count k (get_or table k 0) w
  add-room edges h = let few = table-few c e in record {
    size = g.gathered.size;
    few = g.gathered.few;
    number = omega arith;
    rising = rw g.gathered.keys_are (keys-rising k bs table w (omega arith));
    listed = table-listed c e k h;
    edges = edges;
  }

  pub gather-next : {keys' : List ℕ} {r : ℕ} → k < n → Added bs keys count k (get_or table k 0) w keys' r → GatheredBelow n bs table w keys' r (k + 1)
  unfolding keys_below
  gather-next h a = record {
    most = omega arith;
    gathered = record {
      size = a.size;
      few = omega (arith, a.most, g.gathered.few);
      keys_are = rw add-one (a.keys_are ∙ rw g.gathered.keys_are (go (eqb (get_or table k 0) 0) refl));
    };
  }
    where
      below : List ℕ
      below = keys_below k bs table w

      with-key : ℕ → List ℕ
      with-key e = insert_key (rank_of bs k e) below

      go : (b : Bool) → eqb (get_or table k 0) 0 ≡ b
          → cond (cond (not b) (meets (rectangle bs (get_or table k 0)) w) false) (with-key (get_or table k 0)) below
          ≡ cond (cond (not b) (meets (rectangle bs (entry_place bs k)) w) false) (with-key (entry_place bs k)) below
      go true e = refl
      go false f = rw (table-place c e k h (eqb-false (get_or table k 0) 0 f))

pub gather-end : {n : ℕ} {bs table : List ℕ} {w : Rect} {keys : List ℕ} {count k : ℕ} → GatheredBelow n bs table w keys count k → n ≤ k
    → Gathered n bs table w keys count
gather-end {n} {k = k} g h = let e : k ≡ n = omega (arith, g.most) in rw e at g.gathered
