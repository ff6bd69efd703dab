-- The turns along the keys, one after the other: what the next may read and write, and what it makes of the run. Assumes nothing.
use Prim.Native.Nat.{ℕ, zero, suc, ◌+◌, ◌*◌, ◌%◌, ◌^◌, ◌≤◌, ◌<◌}
use mathlib.Core.Path.{◌≡◌, refl, sym, ap, subst, ◌∙◌}
use mathlib.Core.List.{List, [], ◌∷◌, map}
use mathlib.Core.Bool.{Bool, true, false, cond, true≢false}
use native.Mathlib.Omega.{arith}
use native.Mathlib.Nat.{mul-le-mul}
use lib.ListN.{length, get_or, take, length-map}
use lib.IntN.{ℤ}
use lib.Seq.{length-take-le, take_all}
use Rattle.format.specs.Scan.{scan_of}
use Rattle.format.specs.Choice.{Choice, asked_layer}
use Rattle.format.specs.declared.Release.{Release}
use Rattle.format.specs.Entry.{pixel_bytes, file_position, next_entry, dimensions_bad}
use Rattle.subblocks.proofs.PartLaws.{listed_in}
use Rattle.format.specs.Directory.{entry_place}
use Rattle.plane.specs.Tiles.{Tile, area}
use Rattle.plane.specs.Turns.{Painting, turn, run, no_tile}
use Rattle.plane.proofs.RunLaws.{Kept, run-kept, room-kept, stored-le}
use Rattle.plane.proofs.SortedRuns.{run_up}
use Rattle.paint.specs.declared.Turn.{Turn}
use Rattle.plane.specs.declared.Rect.{Rect}
use Rattle.turns.specs.Turned.{kind_of}
use Rattle.tiles.specs.FileTile.{meets, rectangle, file_tile, paints}
use Rattle.tiles.specs.Painted.{PaintRoom, Painted}
use Rattle.selection.specs.Layer.{HasAskedLayer}
use Rattle.judge.proofs.AcceptedFile.{tiled}
use Rattle.compose.specs.Steps.{chosen_in, takes_turn, tile_of_key, key_place, KeyRoom, KeyPainted, RunRoom, RunDone}

get_d_map : (f : ℕ → Tile) (l : List ℕ) (i : ℕ) → i < length l → get_or (map f l) i no_tile ≡ f (get_or l i 0)
get_d_map f [] i h = absurd (omega arith)
get_d_map f (x ∷ l) zero h = refl
get_d_map f (x ∷ l) (suc i) h = get_d_map f l i (omega arith)

turn-chosen : (bs table : List ℕ) (w : Rect) (k : ℕ) → takes_turn bs table w k ≡ true → chosen_in table k ≡ true
turn-chosen bs table w k e = go (chosen_in table k) (meets (rectangle bs (entry_place bs k)) w) e
  where
    go : (b m : Bool) → cond b m false ≡ true → b ≡ true
    go true m e = refl
    go false m e = absurd (true≢false (sym e))

-- ---- the turn of a key

module _ {t m bs : List ℕ} {rel : Release} {starts : List ℤ} {table : List ℕ} {key : ℕ} {on : Bool} {w : Rect} where
  pub key-entry : KeyRoom t m (scan_of bs rel) starts table key on w → key_place table key + 32 ≤ length bs
  key-entry r = listed_in _ _ r.paint.tile.filled.agreed.placed.listed

  -- its layer can be asked for
  pub key-inside : KeyRoom t m (scan_of bs rel) starts table key on w → next_entry bs (key_place table key) ≤ length bs
  key-inside r = r.paint.tile.filled.agreed.placed.listed.entry

  pub key-dimensions : KeyRoom t m (scan_of bs rel) starts table key on w → dimensions_bad bs (key_place table key) ≡ false
  key-dimensions r = r.paint.tile.filled.agreed.placed.listed.dimensions

  pub key-asked : KeyRoom t m (scan_of bs rel) starts table key on w → HasAskedLayer bs (key_place table key) starts
  key-asked r = r.asked

  -- with its position q and its layer l, as they were read
  pub key-paints : (q l : ℕ) → KeyRoom t m (scan_of bs rel) starts table key on w → q ≡ file_position bs (key_place table key)
      → l ≡ asked_layer bs (key_place table key) starts → PaintRoom t m bs (key_place table key) bs q l rel on w
  key-paints q l r e f = rw (e, f) r.paint

  pub key-painted : {by : Turn} {t' m' : List ℕ} {r : ℕ} (q l : ℕ) → q ≡ file_position bs (key_place table key)
      → l ≡ asked_layer bs (key_place table key) starts
      → Painted t m bs (key_place table key) bs q l rel on w by t' m' r → KeyPainted t m (scan_of bs rel) starts table key on w by t' m' r
  key-painted q l e f d = record { painted = rw (e, f) at d }

-- ---- where a loop over keys stands at i

pub record RunAt (by : Turn) (t₀ m₀ : List ℕ) (ch : Choice) (keys : List ℕ) (w : Rect) (pixel i : ℕ) (t m : List ℕ) (stored : ℕ) : Type 0 where
  pub most : i ≤ length keys
  pub run_is : ◌≡◌ {A = Painting} (record { target = t; map = m; stored = stored })
      (run (kind_of by) w (pixel_bytes pixel) (take i (map (tile_of_key ch) keys)) (record { target = t₀; map = m₀; stored = 0 }))

module _ {t₀ m₀ bs : List ℕ} {rel : Release} {starts : List ℤ} {table keys : List ℕ} {w : Rect} {pixel : ℕ}
    (r : RunRoom t₀ m₀ (scan_of bs rel) starts table keys w pixel) where
  lent : Painting
  lent = record { target = t₀; map = m₀; stored = 0 }

  module _ (on : Bool) where
    tiles : List Tile
    tiles = map (tile_of_key (paints (scan_of bs rel) starts on)) keys

    tiles-count : length tiles ≡ length keys
    unfolding tiles
    tiles-count = length-map keys (tile_of_key (paints (scan_of bs rel) starts on))

    tile-at : (i : ℕ) → i < length keys → get_or tiles i no_tile ≡ tile_of_key (paints (scan_of bs rel) starts on) (get_or keys i 0)
    unfolding tiles
    tile-at i h = get_d_map (tile_of_key (paints (scan_of bs rel) starts on)) keys i h

  -- ---- the entry of the key at i

  chosen : (i : ℕ) → i < length keys → chosen_in table (get_or keys i 0 % 4096) ≡ true
  chosen i h = turn-chosen bs table w (get_or keys i 0 % 4096) (r.key i h).turn

  place : (i : ℕ) → i < length keys → key_place table (get_or keys i 0) ≡ entry_place bs (get_or keys i 0 % 4096)
  place i h = r.chosen.place (get_or keys i 0 % 4096) (r.key i h).within (chosen i h)

  -- ---- the run so far

  module _ {on : Bool} {by : Turn} {i : ℕ} {t m : List ℕ} {stored : ℕ} (p : RunAt by t₀ m₀ (paints (scan_of bs rel) starts on) keys w pixel i t m stored) where
    kept : Kept w (pixel_bytes pixel) lent (record { target = t; map = m; stored = stored })
    unfolding lent
    kept = subst (Kept w (pixel_bytes pixel) lent) (sym p.run_is) (run-kept w (pixel_bytes pixel) (kind_of by) _ lent)

    pub same_target : length t ≡ length t₀
    unfolding lent
    same_target = kept.target-length

    pub same_map : length m ≡ length m₀
    unfolding lent
    same_map = kept.map-length

    stored-small : stored ≤ 4096 * 4294967296
    unfolding lent tiles
    stored-small =
        let done = take i (tiles on) in
        let a = stored-le w (pixel_bytes pixel) (kind_of by) done lent in
        let e : stored ≡ (run (kind_of by) w (pixel_bytes pixel) done lent).stored = ap (λ (s : Painting). s.stored) p.run_is in
        let d : length done ≤ 4096 = omega (arith, length-take-le i (tiles on) (omega (arith, tiles-count on, p.most)), p.most, r.few) in
        let f : length done * area w ≤ 4096 * 4294967296 = mul-le-mul d r.small in
        omega (arith, a, e, f)

    pub key-room : i < length keys → KeyRoom t m (scan_of bs rel) starts table (get_or keys i 0) on w
    unfolding lent
    key-room h =
        let k = get_or keys i 0 % 4096 in
        let judged = (tiled (scan_of bs rel) r.accepted).tile k (r.key i h).within in
        let asked = r.asked k (r.key i h).within (chosen i h) in
        record {
          size = r.chosen.size;
          asked = rw (place i h) asked;
          paint = rw (place i h)
              (record {
                tile = record {
                  filled = judged.filled;
                  whole = r.chosen.whole k (r.key i h).within (chosen i h);
                  layer = asked.below;
                  room = rw (r.typed k (r.key i h).within (r.key i h).turn) (room-kept w (pixel_bytes pixel) kept r.room);
                  right = omega (arith, r.edges.right);
                  bottom = omega (arith, r.edges.bottom);
                };
                judged = λ o. judged;
              });
        }

    -- one turn more
    turn_is : i < length keys → {t' m' : List ℕ} {n : ℕ} → KeyPainted t m (scan_of bs rel) starts table (get_or keys i 0) on w by t' m' n
        → ◌≡◌ {A = Painting} (record { target = t'; map = m'; stored = stored + n })
        (turn (kind_of by) w (pixel_bytes pixel) (get_or (tiles on) i no_tile) (run (kind_of by) w (pixel_bytes pixel) (take i (tiles on)) lent))
    unfolding file_tile lent tiles
    turn_is h d =
        let k = get_or keys i 0 % 4096 in
        let typed = r.typed k (r.key i h).within (r.key i h).turn in
        let e = rw (place i h) at d.painted in
        rw (tile-at on i h, ← p.run_is) (rw typed at (e.painted k stored))

    module _ (h : i < length keys) {t' m' : List ℕ} (n : ℕ) (d : KeyPainted t m (scan_of bs rel) starts table (get_or keys i 0) on w by t' m' n) where
      next : RunAt by t₀ m₀ (paints (scan_of bs rel) starts on) keys w pixel (i + 1) t' m' (stored + n)
      unfolding lent tiles
      next = record {
        most = omega arith;
        run_is = turn_is h d ∙ sym (run_up (kind_of by) w (pixel_bytes pixel) (tiles on) lent i (omega (arith, tiles-count on)));
      }

    pub run-end : length keys ≤ i → RunDone (kind_of by) t₀ m₀ (paints (scan_of bs rel) starts on) keys w pixel t m stored
    unfolding tiles
    run-end e =
        let f : take i (tiles on) ≡ tiles on = take_all i (tiles on) (omega (arith, tiles-count on)) in
        record { run_is = rw f at p.run_is }

  pub run-next : {on : Bool} {by : Turn} {i : ℕ} {t m : List ℕ} {stored : ℕ} → RunAt by t₀ m₀ (paints (scan_of bs rel) starts on) keys w pixel i t m stored
      → i < length keys → {t' m' : List ℕ} {n : ℕ} → KeyPainted t m (scan_of bs rel) starts table (get_or keys i 0) on w by t' m' n
      → RunAt by t₀ m₀ (paints (scan_of bs rel) starts on) keys w pixel (i + 1) t' m' (stored + n)
  run-next p h {n = n} d = next p h n d

  -- their sum fits
  pub run-fits : {on : Bool} {by : Turn} {i : ℕ} {t m : List ℕ} {stored : ℕ} → RunAt by t₀ m₀ (paints (scan_of bs rel) starts on) keys w pixel i t m stored
      → i < length keys → {t' m' : List ℕ} {n : ℕ} → KeyPainted t m (scan_of bs rel) starts table (get_or keys i 0) on w by t' m' n → stored + n < 2 ^ 64
  run-fits p h {n = n} d = omega (arith, stored-small (next p h n d))

  pub run-start : {on : Bool} {by : Turn} → RunAt by t₀ m₀ (paints (scan_of bs rel) starts on) keys w pixel 0 t₀ m₀ 0
  unfolding run
  run-start = record { most = omega arith; run_is = refl }
