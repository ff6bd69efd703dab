-- The turns of a whole run, by number.
use mathlib.Core.Path.{◌≡◌, refl, sym, ap}
use Prim.Native.Nat.{ℕ, zero, suc, ◌+◌, ◌≤◌, ◌<◌}
use native.Mathlib.Nat.{add-zero}
use native.Mathlib.Omega.{arith}
use mathlib.Core.List.{List, [], ◌∷◌}
use mathlib.Core.Bool.{Bool, true, false, ◌||◌}
use lib.Dec.{ltb}
use lib.ListN.{length, take}
use lib.Seq.{take-suc, take-length}
use borrow.Author.Tests.{lt-ltb}
use Rattle.plane.specs.Sums.{one, sum, count}
use Rattle.plane.specs.Tiles.{Tile, area}
use Rattle.plane.specs.Paint.{bit, ones}
use Rattle.plane.specs.Turns.{Kind, quick, turn, run, start, order, compose, no_tile, turn_tile, before, gave, added}
use Rattle.plane.specs.Demand2.{Room}
use Rattle.plane.proofs.SumLaws.{count_none}
use Rattle.plane.proofs.RunLaws.{room-kept, run-kept, run-append, turn-bit, quick-one, quick-adds}
use Rattle.plane.proofs.OrderLaws.{order-length}
use Rattle.plane.proofs.PlaneLaws.{start-room, start-bit}
use Rattle.plane.specs.declared.Rect.{Rect}

-- one turn more: some turn gave it when this one does, or one before did
since-more : (g : Bool) (n : ℕ) → (g || ltb 0 n) ≡ ltb 0 (n + one g)
since-more true n = sym (lt-ltb 0 (n + 1) (omega arith))
since-more false n = ap (λ (x : ℕ). ltb 0 x) (sym (add-zero n))

module _ (k : Kind) (w : Rect) (b : ℕ) (bg : List ℕ) (ts : List Tile) (t m : List ℕ) where
  -- ---- one after the other

  pub before-first : before k w b bg ts t m 0 ≡ start w b bg t m
  unfolding before run
  before-first = refl

  pub before-next : (i : ℕ) → i < length ts → before k w b bg ts t m (suc i) ≡ turn k w b (turn_tile k ts i) (before k w b bg ts t m i)
  unfolding before run
  before-next i h =
      rw (take-suc (order k ts) i no_tile (rw (order-length k ts) h))
      (run-append k w b (take i (order k ts)) (turn_tile k ts i ∷ []) (start w b bg t m))

  pub before_last : before k w b bg ts t m (length ts) ≡ compose k w b bg ts t m
  unfolding before
  before_last = rw (← order-length k ts, take-length)

  pub before-room : Room w b t m → (i : ℕ) → Room w b (before k w b bg ts t m i).target (before k w b bg ts t m i).map
  unfolding before
  before-room r i = room-kept w b (run-kept w b k (take i (order k ts)) (start w b bg t m)) (start-room w b bg t m r)

  -- ---- what they add

  pub before-stored : (i : ℕ) → i ≤ length ts → (before k w b bg ts t m i).stored ≡ sum i (added k w b bg ts t m)
  unfolding sum start turn
  before-stored zero h = rw before-first
  before-stored (suc i) h = rw (before-next i h, before-stored i (omega arith))

  -- ---- since when a pixel is covered

  pub covered-since : Room w b t m → (p : ℕ) → p < area w → (i : ℕ) → i ≤ length ts
      → bit (before k w b bg ts t m i).map p ≡ ltb 0 (count i (λ j. gave k w b bg ts t m j p))
  unfolding sum
  covered-since r p hp zero h = rw before-first (start-bit w b bg t m r p (omega arith))
  covered-since r p hp (suc i) h =
      rw (before-next i h, turn-bit w b p hp k (turn_tile k ts i) (before k w b bg ts t m i) (before-room r i), covered-since r p hp i (omega arith))
      (since-more (gave k w b bg ts t m i p) _)

module _ (w : Rect) (b : ℕ) (bg : List ℕ) (ts : List Tile) (t m : List ℕ) (r : Room w b t m) where
  -- the quick composer's map bit counts the turns that gave the pixel
  pub quick-times : (p : ℕ) → p < area w → (i : ℕ) → i ≤ length ts
      → count i (λ j. gave quick w b bg ts t m j p) ≡ one (bit (before quick w b bg ts t m i).map p)
  unfolding sum
  quick-times p hp zero h = rw (before-first quick w b bg ts t m, start-bit w b bg t m r p (omega arith))
  quick-times p hp (suc i) h =
      rw (quick-times p hp i (omega arith), before-next quick w b bg ts t m i h)
      (sym (quick-one w b p hp (turn_tile quick ts i) (before quick w b bg ts t m i) (before-room quick w b bg ts t m r i)))

  -- and its ones count what they added
  pub quick-ones : (i : ℕ) → i ≤ length ts → sum i (added quick w b bg ts t m) ≡ ones (area w) (before quick w b bg ts t m i).map
  unfolding sum
  quick-ones zero h = rw (before-first quick w b bg ts t m) (sym (count_none (area w) _ (λ p hp. start-bit w b bg t m r p (omega arith))))
  quick-ones (suc i) h =
      rw (quick-ones i (omega arith), before-next quick w b bg ts t m i h)
      (sym (quick-adds w b (turn_tile quick ts i) (before quick w b bg ts t m i) (before-room quick w b bg ts t m r i)))
