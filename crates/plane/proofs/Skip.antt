-- A tile whose turn would give nothing may be passed over.
use mathlib.Core.Path.{◌≡◌, refl, sym, ap, ◌∙◌}
use mathlib.Core.Logic.{⊎_elim}
use Prim.Native.Nat.{ℕ, ◌+◌, ◌≤◌, ◌<◌}
use native.Mathlib.Omega.{arith}
use mathlib.Core.List.Memᴰ
use mathlib.Core.List.{List, [], ◌∷◌, reverse_aux, Memᴰ}
use mathlib.Core.Bool.{Bool, true, false, cond, not, ◌&&◌, true≢false}
use Rattle.plane.specs.Tiles.{Tile, Ranked, area, col_of, row_of, gives_at}
use Rattle.plane.specs.Paint.{bit}
use Rattle.plane.specs.Turns.{Painting, Kind, plain, quick, turn_gives, turn_adds, turn, run, start, order, bottom_first, compose}
use Rattle.plane.specs.Demand2.{Room}
use Rattle.plane.proofs.Tests.{cond-case, by_bool}
use Rattle.plane.proofs.SumLaws.{count_none}
use Rattle.plane.proofs.PaintLaws.{paint-none, mark-noop}
use Rattle.plane.proofs.RunLaws.{MapBytes, turn-room, turn-bytes}
use Rattle.plane.proofs.OrderLaws.{Rising, sort-rising, order_from, order-to}
use Rattle.plane.proofs.PlaneLaws.{start-room, start-bytes}
use Rattle.plane.proofs.SortedRuns.{sorted}
use Rattle.plane.specs.declared.Rect.{Rect}

-- ---- one turn

-- a turn that gives nothing leaves target, map and store count as they were
pub turn-nothing : (k : Kind) (w : Rect) (b : ℕ) (t : Tile) (s : Painting) → 1 ≤ b → MapBytes w s.map
    → ((p : ℕ) → p < area w → turn_gives k w t s.map p ≡ false)
    → turn k w b t s ≡ s
unfolding turn
turn-nothing k w b t s hb h e i =
    let none : s.stored + turn_adds k w t s.map ≡ s.stored = omega (arith, count_none (area w) (turn_gives k w t s.map) e) in
    record {
      target = paint-none (area w) b (turn_gives k w t s.map) (λ p j. t.byte (col_of w p) (row_of w p) j) s.target hb e i;
      map = mark-noop (area w) (turn_gives k w t s.map) s.map h (λ p l. rw (e p l)) i;
      stored = none i;
    }

-- so does that of a tile that gives no pixel of the window, in either composer
pub turn-apart : (k : Kind) (w : Rect) (b : ℕ) (t : Tile) (s : Painting) → 1 ≤ b → MapBytes w s.map → ((p : ℕ) → p < area w → gives_at w t p ≡ false)
    → turn k w b t s ≡ s
turn-apart plain w b t s hb h e = turn-nothing plain w b t s hb h e
turn-apart quick w b t s hb h e = turn-nothing quick w b t s hb h (λ p l. ap (λ (x : Bool). x && not (bit s.map p)) (e p l))

-- ---- a run

-- the tiles that pass a test
unfoldable pub keep : (Tile → Bool) → List Tile → List Tile
keep f [] = []
keep f (t ∷ ts) = cond (f t) (t ∷ keep f ts) (keep f ts)

-- each of the tiles that does not pass the test gives no pixel of the window
abbrev pub Apart : Rect → (Tile → Bool) → List Tile → Type 0
Apart w meets ts = (t : Tile) → Memᴰ t ts → meets t ≡ false → (p : ℕ) → p < area w → gives_at w t p ≡ false

module _ (w : Rect) (b : ℕ) (meets : Tile → Bool) where
  pub skip : (k : Kind) (ts : List Tile) → Apart w meets ts → (s : Painting) → Room w b s.target s.map → MapBytes w s.map
      → run k w b ts s ≡ run k w b (keep meets ts) s
  unfolding run keep
  skip k [] a s r h = refl
  skip k (t ∷ ts) a s r h =
      by_bool (meets t)
      (λ e. rw e (skip k ts (λ u m. a u (Memᴰ.tail m)) (turn k w b t s) (turn-room w b k t s r) (turn-bytes w b k t s r)))
      (λ e. rw e (ap (run k w b ts) (turn-apart k w b t s r.bytes h (a t (Memᴰ.head refl) e)) ∙ skip k ts (λ u m. a u (Memᴰ.tail m)) s r h))

-- ---- a composer's whole run

module _ (f : Tile → Bool) where
  keep-from : {x : Tile} (ts : List Tile) → Memᴰ x (keep f ts) → Memᴰ x ts × (f x ≡ true)
  unfolding keep
  keep-from [] m = absurd (Memᴰ.not-nil m)
  keep-from {x} (t ∷ ts) m =
      cond-case (λ (l : List Tile). Memᴰ x l → Memᴰ x (t ∷ ts) × (f x ≡ true)) (f t)
      (λ e m. ⊎_elim (λ (q : x ≡ t). (Memᴰ.head q, ap f q ∙ e)) (λ m. let o = keep-from ts m in (Memᴰ.tail o.0, o.1)) (Memᴰ.cases_cons m))
      (λ e m. let o = keep-from ts m in (Memᴰ.tail o.0, o.1))
      m

  keep-to : {x : Tile} (ts : List Tile) → Memᴰ x ts → f x ≡ true → Memᴰ x (keep f ts)
  unfolding keep
  keep-to [] m e = absurd (Memᴰ.not-nil m)
  keep-to {x} (t ∷ ts) m e =
      cond-case (λ (l : List Tile). Memᴰ x l) (f t)
      (λ _. ⊎_elim (λ q. Memᴰ.head q) (λ m. Memᴰ.tail (keep-to ts m e)) (Memᴰ.cases_cons m))
      (λ n. ⊎_elim (λ (q : x ≡ t). absurd (true≢false (sym e ∙ ap f q ∙ n))) (λ m. keep-to ts m e) (Memᴰ.cases_cons m))

  pub keep-ranked : (ts : List Tile) → Ranked ts → Ranked (keep f ts)
  unfolding keep
  keep-ranked [] d = tt
  keep-ranked (t ∷ ts) d =
      cond-case (λ (l : List Tile). Ranked l) (f t) (λ _. (λ s m. d.0 s (keep-from ts m).0, keep-ranked ts d.1)) (λ _. keep-ranked ts d.1)

  keep-rising : (ts : List Tile) → Rising ts → Rising (keep f ts)
  unfolding keep
  keep-rising [] r = tt
  keep-rising (t ∷ ts) r =
      cond-case (λ (l : List Tile). Rising l) (f t) (λ _. (λ s m. r.0 s (keep-from ts m).0, keep-rising ts r.1)) (λ _. keep-rising ts r.1)

  keep-reverse : (ts us : List Tile) → keep f (reverse_aux ts us) ≡ reverse_aux (keep f ts) (keep f us)
  unfolding keep
  keep-reverse [] us = refl
  keep-reverse (t ∷ ts) us = rw (keep-reverse ts (t ∷ us)) (by_bool (f t) (λ e. rw e) (λ e. rw e))

  -- keeping some and sorting, and sorting and keeping some, are the same
  keep-sort : (ts : List Tile) → Ranked ts → keep f (bottom_first ts) ≡ bottom_first (keep f ts)
  keep-sort ts d =
      sorted (keep f ts) (keep f (bottom_first ts)) (keep-ranked ts d) (keep-rising (bottom_first ts) (sort-rising ts d))
      (λ t m. let o = keep-from (bottom_first ts) m in keep-to ts (order_from plain ts o.0) o.1)
      (λ t m. let o = keep-from ts m in keep-to (bottom_first ts) (order-to plain ts o.0) o.1)

  pub keep-order : (k : Kind) (ts : List Tile) → Ranked ts → keep f (order k ts) ≡ order k (keep f ts)
  unfolding keep
  keep-order plain ts d = keep-sort ts d
  keep-order quick ts d = keep-reverse (bottom_first ts) [] ∙ rw (keep-sort ts d)

pub skip-compose : (w : Rect) (b : ℕ) (meets : Tile → Bool) (k : Kind) (bg : List ℕ) (ts : List Tile) (t m : List ℕ)
    → Ranked ts → Room w b t m → Apart w meets ts
    → compose k w b bg ts t m ≡ compose k w b bg (keep meets ts) t m
skip-compose w b meets k bg ts t m d r a =
    skip w b meets k (order k ts) (λ u n. a u (order_from k ts n)) (start w b bg t m) (start-room w b bg t m r) (start-bytes w b bg t m r)
    ∙ ap (λ (l : List Tile). run k w b l (start w b bg t m)) (keep-order meets k ts d)
