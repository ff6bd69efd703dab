-- Tiles that a window cannot tell apart: a composer's whole run over them is the same. Assumes nothing.
use mathlib.Core.Path.{◌≡◌, refl, ap, ap₂}
use Prim.Native.Nat.{ℕ, ◌+◌, ◌*◌, ◌/◌, ◌%◌, ◌≤◌, ◌<◌}
use native.Mathlib.Nat.{mod-lt, div-lt_iff_lt-mul}
use mathlib.Core.List.{List, [], ◌∷◌, reverse_aux}
use mathlib.Core.Bool.{Bool, true, false, cond, not, ◌&&◌}
use lib.Dec.{leb}
use lib.ListN.{length, get_or}
use borrow.Author.Tests.{lt-ltb, le-ltb}
use Rattle.plane.specs.Tiles.{Tile, area, col_of, row_of, gives_at}
use Rattle.plane.specs.Paint.{bit, paint}
use Rattle.plane.specs.Turns.{Painting, Kind, plain, quick, turn_gives, turn_adds, turn, run, start, below, insert, bottom_first, order, compose}
use Rattle.plane.proofs.Tests.{by_bool, by-lt}
use Rattle.plane.proofs.SumLaws.{sum-ext, tab-ext}
use Rattle.plane.proofs.PaintLaws.{mark-ext}
use Rattle.plane.specs.declared.Rect.{Rect}

-- of the same rank, giving the same pixels of the window w, of which the first b bytes are the same
pub record Alike (w : Rect) (b : ℕ) (s t : Tile) : Type 0 where
  pub rank : s.rank ≡ t.rank
  pub gives : (p : ℕ) → p < area w → gives_at w s p ≡ gives_at w t p
  pub byte : (p j : ℕ) → p < area w → gives_at w s p ≡ true → j < b → s.byte (col_of w p) (row_of w p) j ≡ t.byte (col_of w p) (row_of w p) j

-- tile by tile
pub data AlikeAll (w : Rect) (b : ℕ) : List Tile → List Tile → Type 0 where
  none : AlikeAll w b [] []
  more : {s t : Tile} {ss ts : List Tile} → Alike w b s t → AlikeAll w b ss ts → AlikeAll w b (s ∷ ss) (t ∷ ts)

-- ---- a turn

-- painting reads a pixel only where it is painted, and no more of it than its bytes
paint-ext : (n b : ℕ) (on on' : ℕ → Bool) (px px' : ℕ → ℕ → ℕ) (t : List ℕ) → 1 ≤ b → ((p : ℕ) → p < n → on p ≡ on' p)
    → ((p j : ℕ) → p < n → on p ≡ true → j < b → px p j ≡ px' p j) → paint n b on px t ≡ paint n b on' px' t
unfolding paint
paint-ext n b on on' px px' t hb e f =
    tab-ext (length t) _ _ (λ k _. by-lt k (n * b) (λ l. rw (lt-ltb k (n * b) l) (inside k ((div-lt_iff_lt-mul hb).1 l))) (λ l. rw (le-ltb k (n * b) l)))
  where
    inside : (k : ℕ) → k / b < n → cond (on (k / b)) (px (k / b) (k % b)) (get_or t k 0) ≡ cond (on' (k / b)) (px' (k / b) (k % b)) (get_or t k 0)
    inside k l =
        by_bool (on (k / b)) (λ o. rw (← e (k / b) l, o) (f (k / b) (k % b) l o (mod-lt k hb))) (λ o. rw (← e (k / b) l, o))

and_left : (g x : Bool) → (g && x) ≡ true → g ≡ true
and_left true x e = refl
and_left false x e = e

module _ (w : Rect) (b : ℕ) (hb : 1 ≤ b) where
  module _ {s t : Tile} (a : Alike w b s t) where
    same_gives : (k : Kind) (m : List ℕ) (p : ℕ) → p < area w → turn_gives k w s m p ≡ turn_gives k w t m p
    same_gives plain m p h = a.gives p h
    same_gives quick m p h = ap (λ (x : Bool). x && not (bit m p)) (a.gives p h)

    gives-tile : (k : Kind) (m : List ℕ) (p : ℕ) → turn_gives k w s m p ≡ true → gives_at w s p ≡ true
    gives-tile plain m p e = e
    gives-tile quick m p e = and_left (gives_at w s p) (not (bit m p)) e

    turn-alike : (k : Kind) (x : Painting) → turn k w b s x ≡ turn k w b t x
    unfolding turn
    turn-alike k x i =
        let same = same_gives k x.map in
        let adds : x.stored + turn_adds k w s x.map ≡ x.stored + turn_adds k w t x.map =
        ap (λ (n : ℕ). x.stored + n) (sum-ext (area w) _ _ (λ p h. rw (same p h))) in
        record {
          target = paint-ext (area w) b (turn_gives k w s x.map) (turn_gives k w t x.map)
              (λ p j. s.byte (col_of w p) (row_of w p) j) (λ p j. t.byte (col_of w p) (row_of w p) j) x.target
              hb same (λ p j h o l. a.byte p j h (gives-tile k x.map p o) l) i;
          map = mark-ext (area w) (turn_gives k w s x.map) (turn_gives k w t x.map) x.map same i;
          stored = adds i;
        }

  -- ---- a run

  run-alike : (k : Kind) {ss ts : List Tile} → AlikeAll w b ss ts → (x : Painting) → run k w b ss x ≡ run k w b ts x
  unfolding run
  run-alike k none x = refl
  run-alike k (more {s} {t} {ss} {ts} a r) x = rw (turn-alike a k x) (run-alike k r (turn k w b t x))

  below_alike : {s t s' t' : Tile} → Alike w b s t → Alike w b s' t' → below s s' ≡ below t t'
  unfolding below
  below_alike a c = ap₂ leb a.rank c.rank

  insert-alike : {s t : Tile} {ss ts : List Tile} → Alike w b s t → AlikeAll w b ss ts → AlikeAll w b (insert s ss) (insert t ts)
  unfolding insert
  insert-alike a none = more a none
  insert-alike {s} {t} a (more {s = s'} {t = t'} c r) =
      by_bool (below t t') (λ e. rw (below_alike a c, e) (more a (more c r))) (λ e. rw (below_alike a c, e) (more c (insert-alike a r)))

  sort-alike : {ss ts : List Tile} → AlikeAll w b ss ts → AlikeAll w b (bottom_first ss) (bottom_first ts)
  unfolding bottom_first
  sort-alike none = none
  sort-alike (more a r) = insert-alike a (sort-alike r)

  reverse-alike : {ss ts us vs : List Tile} → AlikeAll w b ss ts → AlikeAll w b us vs → AlikeAll w b (reverse_aux ss us) (reverse_aux ts vs)
  reverse-alike none c = c
  reverse-alike (more a r) c = reverse-alike r (more a c)

  order_alike : (k : Kind) {ss ts : List Tile} → AlikeAll w b ss ts → AlikeAll w b (order k ss) (order k ts)
  order_alike plain r = sort-alike r
  order_alike quick r = reverse-alike (sort-alike r) none

  -- a composer's whole run, over the background bg and the lent bytes l and m
  pub compose-alike : (k : Kind) (bg : List ℕ) {ss ts : List Tile} → AlikeAll w b ss ts → (l m : List ℕ) → compose k w b bg ss l m ≡ compose k w b bg ts l m
  compose-alike k bg r l m = run-alike k (order_alike k r) (start w b bg l m)
