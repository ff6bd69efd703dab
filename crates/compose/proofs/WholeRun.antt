-- From the start through the turns to the composer's whole run, and its counts. Assumes nothing.
use Prim.Native.Nat.{ℕ, ◌-◌, ◌≤◌, ◌<◌}
use mathlib.Core.Path.{◌≡◌, refl, sym, ap, subst, ◌∙◌}
use mathlib.Core.List.{List, [], ◌∷◌, ◌++◌, map, reverse, reverse-cons}
use mathlib.Core.Bool.{Bool}
use native.Mathlib.Omega.{arith}
use lib.ListN.{length, take, get_or, length-reverse}
use lib.Seq.{length-take-le}
use Rattle.std.proofs.lemmas.List.{get_or-reverse}
use lib.IntN.{ℤ}
use Rattle.format.specs.Scan.{scan_of}
use Rattle.format.specs.Entry.{pixel_bytes}
use Rattle.format.specs.declared.Release.{Release}
use Rattle.format.specs.Directory.{tile_count}
use Rattle.plane.specs.Paint.{ones}
use Rattle.plane.specs.Tiles.{area}
use Rattle.plane.specs.Turns.{Painting, Kind, plain, quick, run, start, compose}
use Rattle.plane.specs.Demand2.{Room}
use Rattle.plane.proofs.PlaneLaws.{start-room}
use Rattle.plane.proofs.Demand3.{demand3}
use Rattle.paint.specs.declared.Turn.{Turn}
use Rattle.paint.specs.declared.Turn.TheVariants.{Plain, Quick}
use Rattle.plane.specs.declared.Rect.{Rect}
use Rattle.turns.specs.Turned.{kind_of}
use Rattle.blank.specs.Blank.{BackgroundFilled, Cleared}
use Rattle.blank.proofs.Start.{started}
use Rattle.tiles.specs.FileTile.{tiles_below, paints}
use Rattle.judge.proofs.AcceptedFile.{tiled}
use Rattle.question.proofs.Ranks.{tiles-ranked}
use Rattle.compose.specs.Steps.{chosen_in, Gathered, tile_of_key, turn_order, TurnKey, RunRoom, RunDone, PlaneRoom, Begun, PlaneDone}
use Rattle.compose.proofs.KeyTiles.{keys_in, key-at}
use Rattle.compose.proofs.Along.{along}

-- the background and the zero map are the start
pub begun : {t m background t' m' : List ℕ} (w : Rect) (pixel b : ℕ) → b ≡ pixel_bytes pixel
    → BackgroundFilled t (area w) b background t' → Cleared m (area w) m'
    → Begun t m background w pixel t' m'
begun w pixel b e f c = record { start_is = started w (pixel_bytes pixel) _ _ _ _ _ (rw e at f) c }

map-append : {A B : Type 0} (f : A → B) (l k : List A) → map f (l ++ k) ≡ map f l ++ map f k
map-append f [] k = refl
map-append f (x ∷ l) k = ap (λ r. f x ∷ r) (map-append f l k)

map-reverse : {A B : Type 0} (f : A → B) (l : List A) → map f (reverse l) ≡ reverse (map f l)
map-reverse f [] = refl
map-reverse f (x ∷ l) = ap (map f) (reverse-cons x l) ∙ map-append f (reverse l) (x ∷ []) ∙ ap (λ r. r ++ (f x ∷ [])) (map-reverse f l) ∙ sym (reverse-cons (f x) (map f l))

module _ {t m bs : List ℕ} {rel : Release} {starts : List ℤ} {table background : List ℕ} {w : Rect} {pixel : ℕ} {t₁ m₁ : List ℕ} where
  -- the start has room for the turns
  begun-room : PlaneRoom t m (scan_of bs rel) starts table background w pixel → Begun t m background w pixel t₁ m₁ → Room w (pixel_bytes pixel) t₁ m₁
  begun-room p b =
      subst (λ (s : Painting). Room w (pixel_bytes pixel) s.target s.map) (sym b.start_is)
      (start-room w (pixel_bytes pixel) background t m p.room)

  module _ (p : PlaneRoom t m (scan_of bs rel) starts table background w pixel) (b : Begun t m background w pixel t₁ m₁) (n : ℕ) (e : n ≡ tile_count bs)
      {keys : List ℕ} {count : ℕ} (g : Gathered n bs table w keys count) where
    few-tiles : n ≤ 4096
    few-tiles = omega (arith, (tiled (scan_of bs rel) p.accepted).few)

    pub keys-few : count ≤ length keys
    keys-few = omega (arith, g.few, g.size, few-tiles)

    -- the keys of the turns, rising
    pub taken : length (take count keys) ≡ count
    taken = length-take-le count keys keys-few

    turn-key : (i : ℕ) → i < length (take count keys) → TurnKey bs table w (tile_count bs) (get_or (take count keys) i 0)
    turn-key i h =
        let k = key-at bs table w n (take count keys) (rw g.keys_are (keys_in bs table w n few-tiles)) i h in
        record { within = omega (arith, k.within); turn = k.turn }

    run_room : (l : List ℕ) → length l ≤ 4096 → ((i : ℕ) → i < length l → TurnKey bs table w (tile_count bs) (get_or l i 0))
        → RunRoom t₁ m₁ (scan_of bs rel) starts table l w pixel
    run_room l few key = record {
      accepted = p.accepted;
      chosen = p.chosen;
      asked = p.asked;
      few = few;
      key = key;
      edges = p.edges;
      room = begun-room p b;
      small = p.small;
      typed = p.typed;
    }

    pub plain-room : (l : List ℕ) → l ≡ take count keys → RunRoom t₁ m₁ (scan_of bs rel) starts table l w pixel
    plain-room l i = rw i (run_room (take count keys) (omega (arith, taken, g.few, few-tiles)) turn-key)

    pub quick-room : (l : List ℕ) → l ≡ reverse (take count keys) → RunRoom t₁ m₁ (scan_of bs rel) starts table l w pixel
    quick-room l i =
        let n : length (reverse (take count keys)) ≡ length (take count keys) = length-reverse (take count keys) in
        rw i
        (run_room (reverse (take count keys)) (omega (arith, n, taken, g.few, few-tiles))
        (λ i h. rw (get_or-reverse (take count keys) i 0 (omega (arith, n))) (turn-key (length (take count keys) - 1 - i) (omega (arith, n)))))

    module _ {t₂ m₂ : List ℕ} where
      module _ (on : Bool) (stored : ℕ) where
        whole : (k : Kind) → ◌≡◌ {A = Painting} (record { target = t₂; map = m₂; stored = stored })
            (run k w (pixel_bytes pixel) (turn_order k (map (tile_of_key (paints (scan_of bs rel) starts on)) (take count keys))) (record { target = t₁; map = m₁; stored = 0 }))
            → ◌≡◌ {A = Painting} (record { target = t₂; map = m₂; stored = stored })
            (compose k w (pixel_bytes pixel) background (tiles_below (tile_count bs) (paints (scan_of bs rel) starts on) (chosen_in table)) t m)
        whole k d =
            d
            ∙ ap (λ (s : Painting). run k w (pixel_bytes pixel) (turn_order k (map (tile_of_key (paints (scan_of bs rel) starts on)) (take count keys))) s) b.start_is
            ∙ ap
            (λ (l : List ℕ). run k w (pixel_bytes pixel) (turn_order k (map (tile_of_key (paints (scan_of bs rel) starts on)) l)) (start w (pixel_bytes pixel) background t m))
            (rw e at g).keys_are
            ∙ along (paints (scan_of bs rel) starts on) table w k (pixel_bytes pixel) background t m (tile_count bs) (tiled (scan_of bs rel) p.accepted).few p.room

        -- the quick composer's store count is the covered count
        pub quick-done : {by : Turn} (l : List ℕ) → by ≡ Quick → l ≡ reverse (take count keys)
            → RunDone (kind_of by) t₁ m₁ (paints (scan_of bs rel) starts on) l w pixel t₂ m₂ stored
            → PlaneDone (kind_of by) t m (paints (scan_of bs rel) starts on) table background w pixel t₂ m₂ (record { covered = stored; stored = stored })
        quick-done l h i d =
            let r : RunDone quick t₁ m₁ (paints (scan_of bs rel) starts on) l w pixel t₂ m₂ stored = rw h at d in
            let c = whole quick (rw (i, map-reverse (tile_of_key (paints (scan_of bs rel) starts on)) (take count keys)) at r.run_is) in
            let ranked = tiles-ranked (paints (scan_of bs rel) starts on) (chosen_in table) (tile_count bs) (tiled (scan_of bs rel) p.accepted).few in
            let stores = (demand3 (pixel_bytes pixel) background _ ranked).quick_stores w t m p.room in
            rw h
            (record {
              painting = c;
              covered-is = ap (λ (s : Painting). s.stored) c ∙ stores ∙ ap (λ (s : Painting). ones (area w) s.map) (sym c);
            })

        -- the plain one's covered count is the map's ones
        pub plain_done : {by : Turn} (l : List ℕ) (covered : ℕ) → by ≡ Plain → l ≡ take count keys
            → RunDone (kind_of by) t₁ m₁ (paints (scan_of bs rel) starts on) l w pixel t₂ m₂ stored → covered ≡ ones (area w) m₂
            → PlaneDone (kind_of by) t m (paints (scan_of bs rel) starts on) table background w pixel t₂ m₂ (record { covered = covered; stored = stored })
        plain_done l covered h i d o =
            let r : RunDone plain t₁ m₁ (paints (scan_of bs rel) starts on) l w pixel t₂ m₂ stored = rw h at d in
            rw h (record { painting = whole plain (rw i at r.run_is); covered-is = o })
