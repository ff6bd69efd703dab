-- A composer that has its tiles in a list sorted by rank: the list is the definition's own, so a run along it is the composer's whole run.
use mathlib.Core.Path.{◌≡◌, refl, sym, ap, ap₂}
use mathlib.Core.Logic.{⊎_elim}
use Prim.Native.Nat.{ℕ, suc, ◌+◌, ◌<◌}
use native.Mathlib.Numerals.{add-one}
use native.Mathlib.Omega.{arith}
use mathlib.Core.List.Memᴰ
use mathlib.Core.List.{List, [], ◌∷◌, reverse, reverse-cons, Memᴰ}
use lib.ListN.{length, get_or, take, drop}
use lib.Seq.{take-suc, drop-cons}
use Rattle.plane.specs.Tiles.{Tile, Ranked}
use Rattle.plane.specs.Turns.{Painting, Kind, plain, turn, run, bottom_first, no_tile}
use Rattle.plane.proofs.RunLaws.{run-append}
use Rattle.plane.proofs.OrderLaws.{Rising, sort-rising, order_from, order-to}
use Rattle.plane.specs.declared.Rect.{Rect}

-- ---- sorted lists

-- tiles that lie above t, each of which is t or one of us, are of us
above : (t : Tile) (ts us : List Tile) → ((s : Tile) → Memᴰ s ts → t.rank < s.rank) → ((s : Tile) → Memᴰ s ts → Memᴰ s (t ∷ us))
    → (s : Tile) → Memᴰ s ts → Memᴰ s us
above t ts us h f s m =
    ⊎_elim (λ (e : s ≡ t). absurd (omega (arith, h s m, ap (λ (z : Tile). z.rank) e))) (λ n. n) (Memᴰ.cases_cons (f s m))

-- two rising lists of the same tiles are one
pub rising-unique : (ts us : List Tile) → Rising ts → Rising us
    → ((t : Tile) → Memᴰ t ts → Memᴰ t us) → ((t : Tile) → Memᴰ t us → Memᴰ t ts) → ts ≡ us
rising-unique [] [] r q f g = refl
rising-unique [] (u ∷ us) r q f g = absurd (Memᴰ.not-nil (g u (Memᴰ.head refl)))
rising-unique (t ∷ ts) [] r q f g = absurd (Memᴰ.not-nil (f t (Memᴰ.head refl)))
rising-unique (t ∷ ts) (u ∷ us) r q f g =
    ap₂ (λ (x : Tile) (xs : List Tile). x ∷ xs) same
    (rising-unique ts us r.1 q.1
    (above u ts us (λ s m. rw (← same) (r.0 s m)) (λ s m. f s (Memᴰ.tail m)))
    (above t us ts (λ s m. rw same (q.0 s m)) (λ s m. g s (Memᴰ.tail m))))
  where
    same : t ≡ u
    same =
        ⊎_elim (λ e. e)
        (λ m. ⊎_elim (λ e. sym e) (λ n. absurd (omega (arith, q.0 t m, r.0 u n))) (Memᴰ.cases_cons (g u (Memᴰ.head refl))))
        (Memᴰ.cases_cons (f t (Memᴰ.head refl)))

-- the tiles in a rising list are in the definition's order
pub sorted : (ts l : List Tile) → Ranked ts → Rising l
    → ((t : Tile) → Memᴰ t l → Memᴰ t ts) → ((t : Tile) → Memᴰ t ts → Memᴰ t l) → l ≡ bottom_first ts
sorted ts l d r from to =
    rising-unique l (bottom_first ts) r (sort-rising ts d) (λ t m. order-to plain ts (from t m)) (λ t m. to t (order_from plain ts m))

-- ---- runs along them

module _ (k : Kind) (w : Rect) (b : ℕ) (l : List Tile) (s : Painting) (i : ℕ) (h : i < length l) where
  -- one turn more, up the list
  pub run_up : run k w b (take (i + 1) l) s ≡ turn k w b (get_or l i no_tile) (run k w b (take i l) s)
  unfolding run
  run_up = rw (add-one, take-suc l i no_tile h) (run-append k w b (take i l) (get_or l i no_tile ∷ []) s)

  -- and down
  pub run_down : run k w b (reverse (drop i l)) s ≡ turn k w b (get_or l i no_tile) (run k w b (reverse (drop (i + 1) l)) s)
  unfolding run
  run_down = rw (add-one, drop-cons l i no_tile h, reverse-cons) (run-append k w b (reverse (drop (suc i) l)) (get_or l i no_tile ∷ []) s)
