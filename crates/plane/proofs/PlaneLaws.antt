-- Demand 2's plane: each composer makes it, it is one alone, its pixels do not depend on the window, its count adds up over a cut.
use mathlib.Core.Path.{◌≡◌, refl, sym, ap, ◌∙◌}
use mathlib.Core.Logic.{⊎_elim}
use Prim.Native.Nat.{ℕ, ◌+◌, ◌*◌, ◌-◌, ◌/◌, ◌%◌, ◌<◌}
use native.Mathlib.Nat.{mod-lt, div-add-mod', div-lt_iff_lt-mul, add_assoc}
use native.Mathlib.Omega.{arith}
use mathlib.Core.List.{List}
use mathlib.Core.Bool.{Bool, true, false, cond, or-false, and-true}
use lib.Arith.{digits_lt, digits_div, digits_mod}
use lib.ListN.{get_or}
use lib.Seq.{ext_get_or}
use Rattle.plane.specs.Sums.{one, sum}
use Rattle.plane.specs.Tiles.{Tile, area, col_of, row_of, Ranked, covered, within}
use Rattle.plane.specs.Paint.{bit, ones}
use Rattle.plane.specs.Turns.{Painting, Kind, plain, quick, start, order, compose, bottom_first}
use Rattle.plane.specs.Demand2.{Top, None, Room, Plane}
use Rattle.plane.specs.Cuts.{Line, column, row, Cuts, fore, rear, SamePixels}
use Rattle.plane.proofs.Tests.{by-lt}
use Rattle.plane.proofs.SumLaws.{sum-ext, sum-plus, sum_rows, sum-add}
use Rattle.plane.proofs.BitLaws.{same_bits}
use Rattle.plane.proofs.PaintLaws.{paint-length, paint-in, paint-past, clear-length, clear-past, clear_in, clear-bit, cell}
use Rattle.plane.proofs.RunLaws.{last_byte, first_byte, Kept, MapBytes, room-same, run-kept, run-bit, plain_byte, quick-byte, run-bytes}
use Rattle.plane.proofs.OrderLaws.{covered-mem, covered_none, top-or-none, last-top, first-top}
use Rattle.plane.proofs.OrderLaws.{order-to, order-top, order-none, sort-rising, reverse-falling}
use Rattle.plane.specs.declared.Rect.{Rect}

-- ---- the start

module _ (w : Rect) (b : ℕ) (bg t m : List ℕ) (r : Room w b t m) where
  pub start-room : Room w b (start w b bg t m).target (start w b bg t m).map
  unfolding start
  start-room = room-same w b (paint-length (area w) b _ _ t) (clear-length (area w) m) r

  pub start-byte : (p j : ℕ) → p < area w → j < b → get_or (start w b bg t m).target (p * b + j) 0 ≡ get_or bg j 0
  unfolding start
  start-byte p j hp hj = paint-in (area w) b _ _ t r.target p j hp hj

  pub start-bit : (p : ℕ) → p < 8 * ((area w + 7) / 8) → bit (start w b bg t m).map p ≡ false
  unfolding start
  start-bit p hp = clear-bit (area w) m p (omega (arith, r.map)) (omega arith)

  pub start-bytes : MapBytes w (start w b bg t m).map
  unfolding start
  start-bytes i l = rw (clear_in (area w) m i (omega (arith, r.map)) l) (omega arith)

-- ---- each composer makes the plane

module _ (w : Rect) (b : ℕ) (bg : List ℕ) (ts : List Tile) (t m : List ℕ) (r : Room w b t m) (d : Ranked ts) where
  -- the byte that the tiles give in a composer's order
  abbrev given : Kind → ℕ → ℕ → ℕ → ℕ
  given plain u v j = last_byte (order plain ts) u v j
  given quick u v j = first_byte (order quick ts) u v j

  given-top : (k : Kind) (u v j : ℕ) (s : Tile) → Top ts u v s → given k u v j ≡ s.byte u v j
  given-top plain u v j s o = last-top u v j (order plain ts) (sort-rising ts d) s (order-top u v plain ts s o)
  given-top quick u v j s o = first-top u v j (order quick ts) (reverse-falling (bottom_first ts) (sort-rising ts d)) s (order-top u v quick ts s o)

  at_byte : (k : Kind) (p : ℕ) → p < area w → (j : ℕ) → j < b
      → get_or (compose k w b bg ts t m).target (p * b + j) 0
      ≡ cond (covered (order k ts) (col_of w p) (row_of w p)) (given k (col_of w p) (row_of w p) j) (get_or bg j 0)
  at_byte plain p hp j hj =
      rw (plain_byte w b p hp j hj (order plain ts) (start w b bg t m) (start-room w b bg t m r), start-byte w b bg t m r p j hp hj)
  at_byte quick p hp j hj =
      rw (
        quick-byte w b p hp j hj (order quick ts) (start w b bg t m) (start-room w b bg t m r),
        start-bit w b bg t m r p (omega arith),
        and-true,
        start-byte w b bg t m r p j hp hj,
      )

  module _ (k : Kind) (p : ℕ) (hp : p < area w) where
    at-bit : bit (compose k w b bg ts t m).map p ≡ covered (order k ts) (col_of w p) (row_of w p)
    at-bit = rw (run-bit w b p hp k (order k ts) (start w b bg t m) (start-room w b bg t m r), start-bit w b bg t m r p (omega arith)) (or-false _)

    at-given : (s : Tile) → Top ts (col_of w p) (row_of w p) s
        → ((j : ℕ) → j < b → get_or (compose k w b bg ts t m).target (p * b + j) 0 ≡ s.byte (col_of w p) (row_of w p) j)
        × (bit (compose k w b bg ts t m).map p ≡ true)
    at-given s o =
        let e = covered-mem (col_of w p) (row_of w p) (order k ts) (order-to k ts o.chosen) o.gives in
        (λ j hj. at_byte k p hp j hj ∙ rw e (given-top k (col_of w p) (row_of w p) j s o), at-bit ∙ e)

    at-ground : None ts (col_of w p) (row_of w p)
        → ((j : ℕ) → j < b → get_or (compose k w b bg ts t m).target (p * b + j) 0 ≡ get_or bg j 0)
        × (bit (compose k w b bg ts t m).map p ≡ false)
    at-ground n =
        let e = covered_none (col_of w p) (row_of w p) (order k ts) (order-none (col_of w p) (row_of w p) k ts n) in
        (λ j hj. at_byte k p hp j hj ∙ rw e, at-bit ∙ e)

  pub makes : (k : Kind) → Plane w b bg ts t m (compose k w b bg ts t m).target (compose k w b bg ts t m).map
  unfolding start
  makes k = record {
    target-length = kept.target-length ∙ paint-length (area w) b _ _ t;
    map-length = kept.map-length ∙ clear-length (area w) m;
    given = λ x y hx hy. simp (digits_mod y hx, digits_div y hx) at (at-given k (y * w.width + x) (digits_lt hy hx));
    uncovered = λ x y hx hy. simp (digits_mod y hx, digits_div y hx) at (at-ground k (y * w.width + x) (digits_lt hy hx));
    unused = λ p h l. kept.unused p h (rw (clear-length (area w) m) (omega (arith, r.map))) ∙ start-bit w b bg t m r p l;
    byte = run-bytes w b k (order k ts) (start w b bg t m) (start-room w b bg t m r) (start-bytes w b bg t m r);
    target_past = λ i h. kept.target_past i h ∙ paint-past (area w) b _ _ t i h;
    map-past = λ i h. kept.map-past i h ∙ clear-past (area w) m i h;
  }
    where
      kept : Kept w b (start w b bg t m) (compose k w b bg ts t m)
      kept = run-kept w b k (order k ts) (start w b bg t m)

-- ---- its pixels, in whichever window

module _ (b : ℕ) (bg : List ℕ) (ts : List Tile) where
  pub same-pixels : (w w' : Rect) (t₀ m₀ t₀' m₀' : List ℕ) (s s' : Painting)
      → Plane w b bg ts t₀ m₀ s.target s.map → Plane w' b bg ts t₀' m₀' s'.target s'.map → SamePixels b w w' s s'
  same-pixels w w' t₀ m₀ t₀' m₀' s s' a a' x y x' y' hx hy hx' hy' eu ev =
      ⊎_elim
      (λ o.
      let g = a.given x y hx hy o.0 o.1 in
      let g' = a'.given x' y' hx' hy' o.0 (rw (eu, ev) at o.1) in
      (λ j h. g.0 j h ∙ rw (eu, ev) (sym (g'.0 j h)), g.1 ∙ sym g'.1))
      (λ n.
      let g = a.uncovered x y hx hy n in
      let g' = a'.uncovered x' y' hx' hy' (rw (eu, ev) at n) in
      (λ j h. g.0 j h ∙ sym (g'.0 j h), g.1 ∙ sym g'.1))
      (top-or-none (w.left + x) (w.top + y) ts)

  -- and the plane of one window is one alone
  pub one-plane : (w : Rect) (t m : List ℕ) (s s' : Painting) → Room w b t m
      → Plane w b bg ts t m s.target s.map → Plane w b bg ts t m s'.target s'.map → (s.target ≡ s'.target) × (s.map ≡ s'.map)
  one-plane w t m s s' r a a' = (
    ext_get_or 0 s.target s'.target (a.target-length ∙ sym a'.target-length)
        (λ k _. by-lt k (area w * b) (byte k) (λ h. a.target_past k h ∙ sym (a'.target_past k h))),
    ext_get_or 0 s.map s'.map (a.map-length ∙ sym a'.map-length)
        (λ k _. by-lt (8 * k) (area w) (cells k) (λ h. a.map-past k h ∙ sym (a'.map-past k h))),
  )
    where
      number : (p : ℕ) → p < area w
          → ((j : ℕ) → j < b → get_or s.target (p * b + j) 0 ≡ get_or s'.target (p * b + j) 0) × (bit s.map p ≡ bit s'.map p)
      number p hp =
          let hx = mod-lt p r.wide in
          let hy : p / w.width < w.height = (div-lt_iff_lt-mul r.wide).1 hp in
          let x = p % w.width in
          let y = p / w.width in
          rw (div-add-mod' p w.width) at (same-pixels w w t m t m s s' a a' x y x y hx hy hx hy refl refl)

      byte : (k : ℕ) → k < area w * b → get_or s.target k 0 ≡ get_or s'.target k 0
      byte k h = rw (div-add-mod' k b) at ((number (k / b) ((div-lt_iff_lt-mul r.bytes).1 h)).0 (k % b) (mod-lt k r.bytes))

      at : (p : ℕ) → p < 8 * ((area w + 7) / 8) → bit s.map p ≡ bit s'.map p
      at p l = by-lt p (area w) (λ h. (number p h).1) (λ h. a.unused p h l ∙ sym (a'.unused p h l))

      cells : (k : ℕ) → 8 * k < area w → get_or s.map k 0 ≡ get_or s'.map k 0
      cells k h =
          same_bits (get_or s.map k 0) (get_or s'.map k 0) (a.byte k h) (a'.byte k h)
          (λ i l. cell k i l s.map ∙ at (8 * k + i) (omega arith) ∙ sym (cell k i l s'.map))

  -- ---- its count

  pub plane-ones : (w : Rect) (t₀ m₀ t m : List ℕ) → Plane w b bg ts t₀ m₀ t m → ones (area w) m ≡ within w (covered ts)
  unfolding within
  plane-ones w t₀ m₀ t m a =
      sum_rows w.height w.width _ ∙ sum-ext w.height _ _ (λ y hy. sum-ext w.width _ _ (λ x hx. ap one (go x y hx hy)))
    where
      go : (x y : ℕ) → x < w.width → y < w.height → bit m (y * w.width + x) ≡ covered ts (w.left + x) (w.top + y)
      go x y hx hy =
          ⊎_elim (λ o. (a.given x y hx hy o.0 o.1).1 ∙ sym (covered-mem (w.left + x) (w.top + y) ts o.1.chosen o.1.gives))
          (λ n. (a.uncovered x y hx hy n).1 ∙ sym (covered_none (w.left + x) (w.top + y) ts n))
          (top-or-none (w.left + x) (w.top + y) ts)

-- a count of plane pixels over a window is the sum of those over its two halves
pub within-cut : (l : Line) (w : Rect) → Cuts l w → (f : ℕ → ℕ → Bool) → within w f ≡ within (fore l w) f + within (rear l w) f
unfolding within
within-cut (column c) w h f =
    sum-ext w.height _ _ (λ y hy. split y) ∙ sum-plus w.height _ _
  where
    split : (y : ℕ) → sum w.width (λ x. one (f (w.left + x) (w.top + y)))
        ≡ sum c (λ x. one (f (w.left + x) (w.top + y))) + sum (w.width - c) (λ x. one (f (w.left + c + x) (w.top + y)))
    split y =
        ap (λ (n : ℕ). sum n (λ x. one (f (w.left + x) (w.top + y)))) (omega arith)
        ∙ sum-add c (w.width - c) _
        ∙ simp (← add_assoc)
within-cut (row c) w h f =
    ap (λ (n : ℕ). sum n (λ y. sum w.width (λ x. one (f (w.left + x) (w.top + y))))) (omega arith)
    ∙ sum-add c (w.height - c) _
    ∙ simp (← add_assoc)
