-- Counts over windows: by a grid that holds them, by what of them is counted, and over the parts of a box. Assumes nothing.
use Prim.Native.Nat.{ℕ, ◌+◌, ◌-◌, ◌≤◌, ◌<◌}
use mathlib.Core.Path.{◌≡◌, refl, sym, ap, ◌∙◌}
use mathlib.Core.List.{List, [], ◌∷◌, ◌++◌}
use mathlib.Core.Bool.{Bool, true, false, cond, ◌&&◌, and-false, true≢false}
use native.Mathlib.Nat.{add-zero}
use native.Mathlib.Omega.{arith}
use lib.Dec.{leb, ltb}
use borrow.Author.Tests.{le-leb, lt-leb, lt-ltb, le-ltb, leb-true, ltb-true}
use Rattle.plane.specs.Sums.{one, sum}
use Rattle.plane.specs.Tiles.{covers, within}
use Rattle.plane.specs.Cuts.{Line, column, row, Cuts, fore, rear, Inside}
use Rattle.plane.specs.Partition.{cover_count, Partition, Cutting, within_all, AddsUp}
use Rattle.plane.specs.declared.Rect.{Rect}
use Rattle.plane.proofs.Tests.{by_bool, by-lt}
use Rattle.plane.proofs.SumLaws.{sum-ext, sum-plus, sum-zero, sum-add}

-- ---- a pixel that a rectangle covers lies inside it

both : (a b : Bool) → (a && b) ≡ true → (a ≡ true) × (b ≡ true)
both true b e = (refl, e)
both false b e = absurd (true≢false (sym e))

module _ (w : Rect) (u v : ℕ) where
  pub covers-inside : covers w u v ≡ true → Inside w u v
  unfolding covers
  covers-inside e =
      let all = both (leb w.left u && ltb u (w.left + w.width)) _ e in
      let col = both (leb w.left u) _ all.0 in
      let row = both (leb w.top v) _ all.1 in
      record {
        left = leb-true w.left u col.0;
        right = ltb-true u (w.left + w.width) col.1;
        top = leb-true w.top v row.0;
        bottom = ltb-true v (w.top + w.height) row.1;
      }

  pub inside-covers : Inside w u v → covers w u v ≡ true
  unfolding covers
  inside-covers i =
      rw (
        le-leb w.left u i.left,
        lt-ltb u (w.left + w.width) i.right,
        le-leb w.top v i.top,
        lt-ltb v (w.top + w.height) i.bottom,
      )

  not-inside : (Inside w u v → ⊥) → covers w u v ≡ false
  not-inside n = by_bool (covers w u v) (λ e. absurd (n (covers-inside e))) (λ e. e)

  not-covers : covers w u v ≡ false → Inside w u v → ⊥
  not-covers e i = true≢false (sym (inside-covers i) ∙ e)

-- ---- a partition by straight lines

-- a pixel of the box lies in one half, and no other pixel lies in any
cut-one : (l : Line) (w : Rect) → Cuts l w → (u v : ℕ) → one (covers (fore l w) u v) + one (covers (rear l w) u v) ≡ one (covers w u v)
cut-one (column c) w h u v =
    let f = fore (column c) w in
    let r = rear (column c) w in
    by_bool (covers w u v)
    (λ e.
    let i = covers-inside w u v e in
    by-lt u (w.left + c)
    (λ l. rw (e, inside-covers f u v (omega (arith, i)), not-inside r u v (λ j. omega (arith, j))))
    (λ l. rw (e, inside-covers r u v (omega (arith, i)), not-inside f u v (λ j. omega (arith, j)))))
    (λ e.
    let n = not-covers w u v e in
    rw (e, not-inside f u v (λ j. n (omega (arith, j))), not-inside r u v (λ j. n (omega (arith, j)))))
cut-one (row c) w h u v =
    let f = fore (row c) w in
    let r = rear (row c) w in
    by_bool (covers w u v)
    (λ e.
    let i = covers-inside w u v e in
    by-lt v (w.top + c)
    (λ l. rw (e, inside-covers f u v (omega (arith, i)), not-inside r u v (λ j. omega (arith, j))))
    (λ l. rw (e, inside-covers r u v (omega (arith, i)), not-inside f u v (λ j. omega (arith, j)))))
    (λ e.
    let n = not-covers w u v e in
    rw (e, not-inside f u v (λ j. n (omega (arith, j))), not-inside r u v (λ j. n (omega (arith, j)))))

cover-append : (fs rs : List Rect) (u v : ℕ) → cover_count (fs ++ rs) u v ≡ cover_count fs u v + cover_count rs u v
unfolding cover_count
cover-append [] rs u v = omega arith
cover-append (a ∷ fs) rs u v = omega (arith, cover-append fs rs u v)

by_itself : (box : Rect) → Partition box (box ∷ [])
unfolding cover_count
by_itself box u v = add-zero (one (covers box u v))

pub cutting : Cutting
cutting = (by_itself, λ l box h fs rs p q u v. cover-append fs rs u v ∙ rw (p u v, q u v) (cut-one l box h u v))

-- ---- a count over a range as one over the numbers below a bound

sum-none : (n : ℕ) (f : ℕ → ℕ) → ((i : ℕ) → i < n → f i ≡ 0) → sum n f ≡ 0
sum-none n f e = sum-ext n f (λ i. 0) e ∙ sum-zero n

abbrev between : ℕ → ℕ → ℕ → Bool
between l n j = leb l j && ltb j (l + n)

module _ (l n : ℕ) (g : ℕ → ℕ) where
  abbrev picked : ℕ → ℕ
  picked j = cond (between l n j) (g j) 0

  before : (j : ℕ) → j < l → picked j ≡ 0
  before j h = rw (lt-leb l j h)

  among : (i : ℕ) → i < n → picked (l + i) ≡ g (l + i)
  among i h = rw (le-leb l (l + i) (omega arith), lt-ltb (l + i) (l + n) (omega arith))

  behind : (i : ℕ) → picked (l + (n + i)) ≡ 0
  behind i = rw (le-ltb (l + (n + i)) (l + n) (omega arith), and-false)

  parts : (r : ℕ) → sum (l + (n + r)) picked ≡ sum n (λ i. g (l + i))
  parts r =
      let a : sum l picked ≡ 0 = sum-none l picked before in
      let b : sum n (λ i. picked (l + i)) ≡ sum n (λ i. g (l + i)) = sum-ext n _ _ among in
      let c : sum r (λ i. picked (l + (n + i))) ≡ 0 = sum-none r _ (λ i h. behind i) in
      sum-add l (n + r) picked ∙ rw (a, sum-add n r (λ i. picked (l + i)), b, c) (omega arith)

  range : (bound : ℕ) → l + n ≤ bound → sum bound picked ≡ sum n (λ i. g (l + i))
  range bound h = let e : bound ≡ l + (n + (bound - (l + n))) = omega arith in ap (λ (k : ℕ). sum k picked) e ∙ parts (bound - (l + n))

-- ---- a count over a window as one over a grid that holds it: h rows of w

abbrev grid : ℕ → ℕ → (ℕ → ℕ → ℕ) → ℕ
grid h w g = sum h (λ v. sum w (λ u. g u v))

grid-ext : (h w : ℕ) (g g' : ℕ → ℕ → ℕ) → ((u v : ℕ) → g u v ≡ g' u v) → grid h w g ≡ grid h w g'
grid-ext h w g g' e = sum-ext h _ _ (λ v _. sum-ext w _ _ (λ u _. e u v))

grid-plus : (h w : ℕ) (g g' : ℕ → ℕ → ℕ) → grid h w (λ u v. g u v + g' u v) ≡ grid h w g + grid h w g'
grid-plus h w g g' = sum-ext h _ _ (λ v _. sum-plus w (λ u. g u v) (λ u. g' u v)) ∙ sum-plus h _ _

grid-zero : (h w : ℕ) (g : ℕ → ℕ → ℕ) → ((u v : ℕ) → g u v ≡ 0) → grid h w g ≡ 0
grid-zero h w g e = sum-none h _ (λ v _. sum-none w _ (λ u _. e u v))

module _ (a : Rect) (f : ℕ → ℕ → Bool) (h w : ℕ) (r : a.left + a.width ≤ w) (b : a.top + a.height ≤ h) where
  -- the count in row v
  abbrev row_of : ℕ → ℕ
  row_of v = sum a.width (λ x. one (f (a.left + x) v))

  row-grid : (v : ℕ) (t : Bool) → cond t (row_of v) 0 ≡ sum w (λ u. one ((between a.left a.width u && t) && f u v))
  row-grid v true = sym (range a.left a.width (λ u. one (f u v)) w r) ∙ sum-ext w _ _ (λ u _. same (between a.left a.width u) (f u v))
    where
      same : (c d : Bool) → cond c (one d) 0 ≡ one ((c && true) && d)
      same true d = refl
      same false d = refl
  row-grid v false = sym (sum-none w _ (λ u _. rw (and-false (between a.left a.width u))))

  within-grid : within a f ≡ grid h w (λ u v. one (covers a u v && f u v))
  unfolding within covers
  within-grid = sym (range a.top a.height row_of h b) ∙ sum-ext h _ _ (λ v _. row-grid v (between a.top a.height v))

-- ---- two windows that cover the same of what is counted have the same count, and one that covers none of it has none

pub within_same : (a a' : Rect) (f : ℕ → ℕ → Bool) → ((u v : ℕ) → f u v ≡ true → covers a u v ≡ covers a' u v) → within a f ≡ within a' f
within_same a a' f e =
    within-grid a f h w (omega arith) (omega arith)
    ∙ grid-ext h w _ _ (λ u v. ap one (same (f u v) (e u v)))
    ∙ sym (within-grid a' f h w (omega arith) (omega arith))
  where
    w : ℕ
    w = a.left + a.width + (a'.left + a'.width)

    h : ℕ
    h = a.top + a.height + (a'.top + a'.height)

    same : {c c' : Bool} (t : Bool) → (t ≡ true → c ≡ c') → (c && t) ≡ (c' && t)
    same {c} {c'} true g = rw (g refl)
    same {c} {c'} false g = rw (and-false c, and-false c')

pub within_none : (a : Rect) (f : ℕ → ℕ → Bool) → ((u v : ℕ) → covers a u v ≡ true → f u v ≡ false) → within a f ≡ 0
unfolding within
within_none a f e = sum-none a.height _ (λ y hy. sum-none a.width _ (λ x hx. ap one (e _ _ (inside-covers a _ _ (here x y hx hy)))))
  where
    here : (x y : ℕ) → x < a.width → y < a.height → Inside a (a.left + x) (a.top + y)
    here x y hx hy = record { left = omega arith; right = omega arith; top = omega arith; bottom = omega arith }

-- ---- the parts of a box

-- what holds all of the windows: so many columns, and rows
columns : List Rect → ℕ
columns [] = 0
columns (a ∷ ws) = a.left + a.width + columns ws

rows : List Rect → ℕ
rows [] = 0
rows (a ∷ ws) = a.top + a.height + rows ws

all-grid : (ws : List Rect) (f : ℕ → ℕ → Bool) (h w : ℕ) → columns ws ≤ w → rows ws ≤ h
    → within_all ws f ≡ grid h w (λ u v. cond (f u v) (cover_count ws u v) 0)
unfolding within_all cover_count columns rows
all-grid [] f h w r b = sym (grid-zero h w _ (λ u v. none (f u v)))
  where
    none : (t : Bool) → ◌≡◌ {A = ℕ} (cond t 0 0) 0
    none true = refl
    none false = refl
all-grid (a ∷ ws) f h w r b =
    rw (within-grid a f h w (omega arith) (omega arith), all-grid ws f h w (omega arith) (omega arith))
    (sym (grid-plus h w _ _) ∙ grid-ext h w _ _ (λ u v. one_more (covers a u v) (f u v) (cover_count ws u v)))
  where
    one_more : (c t : Bool) (n : ℕ) → one (c && t) + cond t n 0 ≡ cond t (one c + n) 0
    one_more true true n = refl
    one_more true false n = refl
    one_more false true n = refl
    one_more false false n = refl

pub adds-up : AddsUp
adds-up box ws p f =
    within-grid box f h w (omega arith) (omega arith)
    ∙ grid-ext h w _ _ (λ u v. rw (p u v) (same (covers box u v) (f u v)))
    ∙ sym (all-grid ws f h w (omega arith) (omega arith))
  where
    w : ℕ
    w = box.left + box.width + columns ws

    h : ℕ
    h = box.top + box.height + rows ws

    same : (c t : Bool) → one (c && t) ≡ cond t (one c) 0
    same true true = refl
    same true false = refl
    same false true = refl
    same false false = refl
