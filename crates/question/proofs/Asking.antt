-- Refusals 20, 21 and 22 as facts: what a window, a type and the lengths of the lent bytes have where they are not given. Assumes nothing.
use Prim.Native.Nat.{ℕ, ◌+◌, ◌*◌, ◌/◌, ◌≤◌}
use mathlib.Core.Path.{◌≡◌}
use mathlib.Core.List.{List}
use mathlib.Core.Bool.{false}
use native.Mathlib.Omega.{arith}
use lib.ListN.{length}
use lib.Dec.{eqb}
use borrow.Author.Tests.{eqb-true, eqb-false, ltb-false, ne_eqb, le-ltb, not-false}
use Rattle.format.specs.Bytes.{any_of}
use Rattle.format.specs.Entry.{pixel_bytes}
use Rattle.format.proofs.Below.{none}
use Rattle.plane.specs.Tiles.{area}
use Rattle.plane.specs.Cuts.{Proper}
use Rattle.plane.specs.declared.Rect.{Rect}
use Rattle.question.specs.Question.{window_bad, pixel_bad, lent_bad}

positive : (n : ℕ) → eqb n 0 ≡ false → 1 ≤ n
positive n e = let h = eqb-false n 0 e in omega arith

-- ---- refusal 20

pub window-ok : (w : Rect) → window_bad w ≡ false → Proper w
unfolding window_bad
window-ok w e =
    let g = none _ e in
    let wide = positive w.width (g 0) in
    let narrow = g 1 in
    let high = positive w.height (g 2) in
    let low = g 3 in
    let right = g 4 in
    let bottom = g 5 in
    omega (arith, ltb-false)

pub window-accepted : (w : Rect) → Proper w → window_bad w ≡ false
unfolding window_bad any_of
window-accepted w p =
    rw (
      ne_eqb w.width 0 (λ e. omega (arith, p.wide)),
      le-ltb 65536 w.width p.narrow,
      ne_eqb w.height 0 (λ e. omega (arith, p.high)),
      le-ltb 65536 w.height p.low,
      le-ltb 4294967295 (w.left + w.width) (omega (arith, p.right)),
      le-ltb 4294967295 (w.top + w.height) (omega (arith, p.bottom)),
    )

-- ---- refusal 21

pub pixel-ok : (t : ℕ) (background : List ℕ) → pixel_bad t background ≡ false → (1 ≤ pixel_bytes t) × (length background ≡ pixel_bytes t)
unfolding pixel_bad
pixel-ok t background e = let g = none _ e in (positive (pixel_bytes t) (g 0), eqb-true _ _ (not-false _ (g 1)))

-- ---- refusal 22

module _ (w : Rect) (t target map : ℕ) where
  pub lent_ok : lent_bad w t target map ≡ false → (area w * pixel_bytes t ≤ target) × (area w ≤ 8 * map)
  unfolding lent_bad
  lent_ok e =
      let g = none _ e in
      let target-long = g 0 in
      let map-long = g 1 in
      omega (arith, ltb-false)

  pub lent-accepted : area w * pixel_bytes t ≤ target → (area w + 7) / 8 ≤ map → lent_bad w t target map ≡ false
  unfolding lent_bad any_of
  lent-accepted h l = rw (le-ltb target (area w * pixel_bytes t) h, le-ltb map ((area w + 7) / 8) l)
