-- Demand 3, entire.
use mathlib.Core.Path.{◌≡◌, refl, sym, ap, ap₂, ◌∙◌}
use mathlib.Core.Logic.{inl, inr}
use Prim.Native.Nat.{ℕ, ◌+◌, ◌<◌}
use native.Mathlib.Numerals.{add-one}
use native.Mathlib.Omega.{arith}
use native.Mathlib.Nat.{zero-add, le_refl}
use mathlib.Core.List.{List, [], ◌∷◌, reverse}
use mathlib.Core.Bool.{and-false, or-true}
use lib.ListN.{length}
use Rattle.plane.specs.Sums.{one, sum, count}
use Rattle.plane.specs.Tiles.{Tile, area, gives_at, Ranked, covered, within, sum_over}
use Rattle.plane.specs.Paint.{bit, ones}
use Rattle.plane.specs.Turns.{Painting, Kind, plain, quick, start, bottom_first, order, compose, turn_tile, before, gave, added}
use Rattle.plane.specs.Demand2.{Room}
use Rattle.plane.specs.Cuts.{Line, column, row, Cuts, fore, rear, Proper, Halves}
use Rattle.plane.specs.Demand3.{Demand3}
use Rattle.plane.proofs.Tests.{by-lt}
use Rattle.plane.proofs.SumLaws.{one-le}
use Rattle.plane.proofs.RunLaws.{turn_byte, turn-sets, plain-adds, count-within}
use Rattle.plane.proofs.OrderLaws.{order-length, order-to, order_from, sort-sum, sort-rising, reverse-falling, sorted-at}
use Rattle.plane.proofs.PlaneLaws.{makes, same-pixels, one-plane, plane-ones, within-cut}
use Rattle.plane.proofs.TurnLaws.{before-first, before-next, before_last, before-room, before-stored, covered-since, quick-times, quick-ones}
use Rattle.plane.specs.declared.Rect.{Rect}

over-ext : (ts : List Tile) (f g : Tile → ℕ) → ((t : Tile) → f t ≡ g t) → sum_over ts f ≡ sum_over ts g
unfolding sum_over
over-ext [] f g e = refl
over-ext (t ∷ ts) f g e = rw (e t, over-ext ts f g e)

cut-halves : (l : Line) (w : Rect) → Cuts l w → Proper w → Halves l w
cut-halves (column c) w h o = record {
  fore_proper = omega arith;
  rear_proper = omega arith;
  fore_meets = λ a i. omega arith;
  rear_meets = λ a i. omega arith;
  either = λ u v i. by-lt u (w.left + c) (λ e. inl (omega arith)) (λ e. inr (omega arith));
  not-both = λ u v i j. omega arith;
}
cut-halves (row c) w h o = record {
  fore_proper = omega arith;
  rear_proper = omega arith;
  fore_meets = λ a i. omega arith;
  rear_meets = λ a i. omega arith;
  either = λ u v i. by-lt v (w.top + c) (λ e. inl (omega arith)) (λ e. inr (omega arith));
  not-both = λ u v i j. omega arith;
}

module _ (b : ℕ) (bg : List ℕ) (ts : List Tile) (d : Ranked ts) where
  counted : (k : Kind) (w : Rect) (t m : List ℕ) → Room w b t m → ones (area w) (compose k w b bg ts t m).map ≡ within w (covered ts)
  counted k w t m r = plane-ones b bg ts w t m (compose k w b bg ts t m).target (compose k w b bg ts t m).map (makes w b bg ts t m r d k)

  stored : (k : Kind) (w : Rect) (t m : List ℕ) → (compose k w b bg ts t m).stored ≡ sum (length ts) (added k w b bg ts t m)
  stored k w t m = ap (λ (s : Painting). s.stored) (sym (before_last k w b bg ts t m)) ∙ before-stored k w b bg ts t m (length ts) (le_refl (length ts))

  pub demand3 : Demand3 b bg ts
  unfolding start
  demand3 = record {
    each = λ k. (order-length k ts, λ s m. order-to k ts m, λ s m. order_from k ts m);
    rises = λ i j h l. sorted-at (λ a c. a < c) (bottom_first ts) (sort-rising ts d) i j h (omega (arith, order-length plain ts));
    falls = λ i j h l.
        sorted-at (λ a c. c < a) (reverse (bottom_first ts)) (reverse-falling (bottom_first ts) (sort-rising ts d)) i j h (omega (arith, order-length quick ts));
    turns = λ k w t m. (
      before-first k w b bg ts t m,
      λ i h. ap (before k w b bg ts t m) (add-one i) ∙ before-next k w b bg ts t m i h,
      before_last k w b bg ts t m,
    );
    plane = λ k w t m r. makes w b bg ts t m r d k;
    only = λ w t m t₁ m₁ t₂ m₂ r a a'.
        one-plane b bg ts w t m (record { target = t₁; map = m₁; stored = 0 }) (record { target = t₂; map = m₂; stored = 0 }) r a a';
    agree = λ w t m r.
        one-plane b bg ts w t m (compose plain w b bg ts t m) (compose quick w b bg ts t m) r (makes w b bg ts t m r d plain) (makes w b bg ts t m r d quick);
    covered-is = counted;
    since = λ k w t m r i h p hp. covered-since k w b bg ts t m r p hp i h;
    once = λ w t m r p hp.
        let e : count (length ts) (λ i. gave quick w b bg ts t m i p) ≡ one (bit (compose quick w b bg ts t m).map p) =
        quick-times w b bg ts t m r p hp (length ts) (le_refl (length ts)) ∙ ap (λ (s : Painting). one (bit s.map p)) (before_last quick w b bg ts t m) in
        (e, omega (arith, e, one-le (bit (compose quick w b bg ts t m).map p)));
    fresh = λ w t m r i hi p hp h.
        let s = before quick w b bg ts t m i in
        let room = before-room quick w b bg ts t m r i in (
          λ j hj. turn_byte w b p hp quick (turn_tile quick ts i) s room j hj ∙ (rw (h, and-false (gives_at w (turn_tile quick ts i) p))),
          turn-sets w b p hp quick (turn_tile quick ts i) s room ∙ (rw (h, or-true (gives_at w (turn_tile quick ts i) p))),
        );
    stores = stored;
    quick_stores = λ w t m r.
        stored quick w t m ∙ quick-ones w b bg ts t m r (length ts) (le_refl (length ts)) ∙ rw (before_last quick w b bg ts t m);
    plain_stores = λ w t m.
        plain-adds w b (order plain ts) (start w b bg t m)
        ∙ zero-add _
        ∙ sort-sum (λ t. count (area w) (gives_at w t)) ts
        ∙ over-ext ts _ _ (λ t. count-within w t.gives);
    halves = cut-halves;
    cut = λ l w h k k₁ k₂ t m t₁ m₁ t₂ m₂ r r₁ r₂. (
      same-pixels b bg ts w (fore l w) t m t₁ m₁ (compose k w b bg ts t m) (compose k₁ (fore l w) b bg ts t₁ m₁)
          (makes w b bg ts t m r d k) (makes (fore l w) b bg ts t₁ m₁ r₁ d k₁),
      same-pixels b bg ts w (rear l w) t m t₂ m₂ (compose k w b bg ts t m) (compose k₂ (rear l w) b bg ts t₂ m₂)
          (makes w b bg ts t m r d k) (makes (rear l w) b bg ts t₂ m₂ r₂ d k₂),
      counted k w t m r ∙ within-cut l w h (covered ts)
          ∙ ap₂ (λ (n n' : ℕ). n + n') (sym (counted k₁ (fore l w) t₁ m₁ r₁)) (sym (counted k₂ (rear l w) t₂ m₂ r₂)),
    );
  }
