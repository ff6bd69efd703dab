-- What a turn and a run of turns do, pixel by pixel.
use mathlib.Core.Path.{◌≡◌, refl, ap, ◌∙◌}
use Prim.Native.Nat.{ℕ, ◌+◌, ◌*◌, ◌≤◌, ◌<◌}
use native.Mathlib.Nat.{suc-mul}
use native.Mathlib.Omega.{arith}
use mathlib.Core.List.{List, [], ◌∷◌, ◌++◌}
use mathlib.Core.Bool.{Bool, true, false, cond, not, ◌&&◌, ◌||◌, and-false, or-true, not-or_self}
use lib.Arith.{digits_div, digits_mod}
use lib.ListN.{length, get_or}
use borrow.Author.Tests.{lt-ltb, le-ltb}
use Rattle.plane.specs.Sums.{one, count}
use Rattle.plane.specs.Tiles.{Tile, area, col_of, row_of, gives_at, covered, within, sum_over}
use Rattle.plane.specs.Paint.{bit, ones}
use Rattle.plane.specs.Turns.{Painting, Kind, plain, quick, turn_gives, turn_adds, turn, run}
use Rattle.plane.specs.Demand2.{Room}
use Rattle.plane.proofs.SumLaws.{sum-ext, sum-plus, sum_rows, count-le}
use Rattle.plane.proofs.PaintLaws.{paint-length, paint-in, paint-past, mark-length, mark-past, mark-byte, mark-bit}
use Rattle.plane.specs.declared.Rect.{Rect}

-- ---- what no turn touches

pub record Kept (w : Rect) (b : ℕ) (s s' : Painting) : Type 0 where
  pub target-length : length s'.target ≡ length s.target
  pub map-length : length s'.map ≡ length s.map
  pub target_past : (k : ℕ) → area w * b ≤ k → get_or s'.target k 0 ≡ get_or s.target k 0
  pub map-past : (k : ℕ) → area w ≤ 8 * k → get_or s'.map k 0 ≡ get_or s.map k 0
  pub unused : (p : ℕ) → area w ≤ p → p < 8 * length s.map → bit s'.map p ≡ bit s.map p

-- what of a map holds the window's bits are bytes
abbrev pub MapBytes : Rect → List ℕ → Type 0
MapBytes w m = (i : ℕ) → 8 * i < area w → get_or m i 0 < 256

module _ (w : Rect) (b : ℕ) where
  kept_self : (s : Painting) → Kept w b s s
  kept_self s = record { target-length = refl; map-length = refl; target_past = λ k h. refl; map-past = λ k h. refl; unused = λ p h l. refl }

  kept_trans : {s s' s'' : Painting} → Kept w b s s' → Kept w b s' s'' → Kept w b s s''
  kept_trans c d = record {
    target-length = d.target-length ∙ c.target-length;
    map-length = d.map-length ∙ c.map-length;
    target_past = λ k h. d.target_past k h ∙ c.target_past k h;
    map-past = λ k h. d.map-past k h ∙ c.map-past k h;
    unused = λ p h l. d.unused p h (rw c.map-length l) ∙ c.unused p h l;
  }

  -- other lists of the same lengths are as long as is asked
  pub room-same : {t m t' m' : List ℕ} → length t' ≡ length t → length m' ≡ length m → Room w b t m → Room w b t' m'
  room-same e f r = record { wide = r.wide; high = r.high; bytes = r.bytes; target = rw e r.target; map = rw f r.map }

  pub room-kept : {s s' : Painting} → Kept w b s s' → Room w b s.target s.map → Room w b s'.target s'.map
  room-kept c r = room-same c.target-length c.map-length r

  pub turn-kept : (k : Kind) (t : Tile) (s : Painting) → Kept w b s (turn k w b t s)
  unfolding turn
  turn-kept k t s = record {
    target-length = paint-length (area w) b _ _ s.target;
    map-length = mark-length (area w) _ s.map;
    target_past = paint-past (area w) b _ _ s.target;
    map-past = mark-past (area w) _ s.map;
    unused = λ p h l. mark-bit (area w) _ s.map p l ∙ (simp (le-ltb _ _ h));
  }

  pub turn-room : (k : Kind) (t : Tile) (s : Painting) → Room w b s.target s.map → Room w b (turn k w b t s).target (turn k w b t s).map
  turn-room k t s r = room-kept (turn-kept k t s) r

  pub run-kept : (k : Kind) (ts : List Tile) (s : Painting) → Kept w b s (run k w b ts s)
  unfolding run
  run-kept k [] s = kept_self s
  run-kept k (t ∷ ts) s = kept_trans (turn-kept k t s) (run-kept k ts (turn k w b t s))

  -- a turn packs the map's bytes again, and leaves them bytes
  pub turn-bytes : (k : Kind) (t : Tile) (s : Painting) → Room w b s.target s.map → MapBytes w (turn k w b t s).map
  unfolding turn
  turn-bytes k t s r i l = mark-byte (area w) _ s.map i (omega (arith, r.map)) l

  pub run-bytes : (k : Kind) (ts : List Tile) (s : Painting) → Room w b s.target s.map → MapBytes w s.map → MapBytes w (run k w b ts s).map
  unfolding run
  run-bytes k [] s r h = h
  run-bytes k (t ∷ ts) s r h = run-bytes k ts (turn k w b t s) (turn-room k t s r) (turn-bytes k t s r)

-- ---- a turn and a run at a pixel

or-quick : (g x : Bool) → ((g && not x) || x) ≡ (g || x)
or-quick true x = not-or_self x
or-quick false x = refl

or_step : (g c x : Bool) → (c || (g || x)) ≡ ((g || c) || x)
or_step true c x = or-true c
or_step false c x = refl

module _ {A : Type 0} where
  cond-plain : (g c : Bool) (l y o : A) → cond c l (cond g y o) ≡ cond (g || c) (cond c l y) o
  cond-plain true c l y o = refl
  cond-plain false true l y o = refl
  cond-plain false false l y o = refl

  cond-quick : (g c x : Bool) (f y o : A) → cond (c && not (g || x)) f (cond (g && not x) y o) ≡ cond ((g || c) && not x) (cond g y f) o
  cond-quick true c x f y o = rw (and-false c)
  cond-quick false c x f y o = refl

-- the byte of the last, and of the first, of the tiles that give the pixel
unfoldable pub last_byte : List Tile → ℕ → ℕ → ℕ → ℕ
last_byte [] u v j = 0
last_byte (t ∷ ts) u v j = cond (covered ts u v) (last_byte ts u v j) (t.byte u v j)

unfoldable pub first_byte : List Tile → ℕ → ℕ → ℕ → ℕ
first_byte [] u v j = 0
first_byte (t ∷ ts) u v j = cond (t.gives u v) (t.byte u v j) (first_byte ts u v j)

module _ (w : Rect) (b p : ℕ) (hp : p < area w) where
  pub turn_byte : (k : Kind) (t : Tile) (s : Painting) → Room w b s.target s.map → (j : ℕ) → j < b
      → get_or (turn k w b t s).target (p * b + j) 0
      ≡ cond (turn_gives k w t s.map p) (t.byte (col_of w p) (row_of w p) j) (get_or s.target (p * b + j) 0)
  unfolding turn
  turn_byte k t s r j hj = paint-in (area w) b _ _ s.target r.target p j hp hj

  pub turn-bit : (k : Kind) (t : Tile) (s : Painting) → Room w b s.target s.map
      → bit (turn k w b t s).map p ≡ (turn_gives k w t s.map p || bit s.map p)
  unfolding turn
  turn-bit k t s r = mark-bit (area w) _ s.map p (omega (arith, r.map)) ∙ (simp (lt-ltb _ _ hp))

  pub turn-sets : (k : Kind) (t : Tile) (s : Painting) → Room w b s.target s.map
      → bit (turn k w b t s).map p ≡ (gives_at w t p || bit s.map p)
  turn-sets plain t s r = turn-bit plain t s r
  turn-sets quick t s r = turn-bit quick t s r ∙ or-quick (gives_at w t p) (bit s.map p)

  pub run-bit : (k : Kind) (ts : List Tile) (s : Painting) → Room w b s.target s.map
      → bit (run k w b ts s).map p ≡ (covered ts (col_of w p) (row_of w p) || bit s.map p)
  unfolding run covered
  run-bit k [] s r = refl
  run-bit k (t ∷ ts) s r = rw (run-bit k ts (turn k w b t s) (turn-room w b k t s r), turn-sets k t s r, or_step)

  pub plain_byte : (j : ℕ) → j < b → (ts : List Tile) (s : Painting) → Room w b s.target s.map
      → get_or (run plain w b ts s).target (p * b + j) 0
      ≡ cond (covered ts (col_of w p) (row_of w p)) (last_byte ts (col_of w p) (row_of w p) j) (get_or s.target (p * b + j) 0)
  unfolding run covered last_byte
  plain_byte j hj [] s r = refl
  plain_byte j hj (t ∷ ts) s r = rw (plain_byte j hj ts (turn plain w b t s) (turn-room w b plain t s r), turn_byte plain t s r j hj, cond-plain)

  pub quick-byte : (j : ℕ) → j < b → (ts : List Tile) (s : Painting) → Room w b s.target s.map
      → get_or (run quick w b ts s).target (p * b + j) 0
      ≡ cond (covered ts (col_of w p) (row_of w p) && not (bit s.map p)) (first_byte ts (col_of w p) (row_of w p) j) (get_or s.target (p * b + j) 0)
  unfolding run covered first_byte
  quick-byte j hj [] s r = refl
  quick-byte j hj (t ∷ ts) s r =
      rw (quick-byte j hj ts (turn quick w b t s) (turn-room w b quick t s r), turn-sets quick t s r, turn_byte quick t s r j hj, cond-quick)

  -- a turn of the quick composer adds one to what a pixel's bit says where it gives the pixel
  one-or : (g x : Bool) → one ((g && not x) || x) ≡ one x + one (g && not x)
  one-or true true = refl
  one-or true false = refl
  one-or false x = omega arith

  pub quick-one : (t : Tile) (s : Painting) → Room w b s.target s.map
      → one (bit (turn quick w b t s).map p) ≡ one (bit s.map p) + one (turn_gives quick w t s.map p)
  quick-one t s r = ap one (turn-bit quick t s r) ∙ one-or (gives_at w t p) (bit s.map p)

-- ---- counts

module _ (w : Rect) (b : ℕ) where
  pub quick-adds : (t : Tile) (s : Painting) → Room w b s.target s.map
      → ones (area w) (turn quick w b t s).map ≡ ones (area w) s.map + turn_adds quick w t s.map
  quick-adds t s r =
      sum-ext (area w) _ _ (λ p hp. quick-one w b p hp t s r) ∙ sum-plus (area w) (λ p. one (bit s.map p)) (λ p. one (turn_gives quick w t s.map p))

  -- the plain composer's turns add what each tile gives
  pub plain-adds : (ts : List Tile) (s : Painting) → (run plain w b ts s).stored ≡ s.stored + sum_over ts (λ t. count (area w) (gives_at w t))
  unfolding run sum_over turn
  plain-adds [] s = omega arith
  plain-adds (t ∷ ts) s = plain-adds ts (turn plain w b t s) ∙ omega arith

  -- a turn adds at most the window's pixels
  pub stored-le : (k : Kind) (ts : List Tile) (s : Painting) → (run k w b ts s).stored ≤ s.stored + length ts * area w
  unfolding run turn
  stored-le k [] s = omega arith
  stored-le k (t ∷ ts) s = omega (arith, stored-le k ts (turn k w b t s), count-le (area w) (turn_gives k w t s.map), suc-mul (length ts) (area w))

-- a count over pixel numbers, by rows and columns
pub count-within : (w : Rect) (f : ℕ → ℕ → Bool) → count (area w) (λ p. f (col_of w p) (row_of w p)) ≡ within w f
unfolding within
count-within w f =
    sum_rows w.height w.width _
    ∙ sum-ext w.height _ _ (λ y hy. sum-ext w.width _ _ (λ x hx. rw (digits_mod y hx, digits_div y hx)))

-- two lists of turns, one after the other
pub run-append : (k : Kind) (w : Rect) (b : ℕ) (ts us : List Tile) (s : Painting) → run k w b (ts ++ us) s ≡ run k w b us (run k w b ts s)
unfolding run
run-append k w b [] us s = refl
run-append k w b (t ∷ ts) us s = run-append k w b ts us (turn k w b t s)
