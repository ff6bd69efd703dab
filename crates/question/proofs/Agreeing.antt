-- Refusal 23: it is not given where it is given at no entry, nor of a window that meets no more tiles. Assumes nothing.
use Prim.Native.Nat.{ℕ, ◌<◌}
use mathlib.Core.Path.{◌≡◌, refl}
use mathlib.Core.List.{List}
use mathlib.Core.Bool.{Bool, true, false, cond, not}
use lib.Dec.{eqb}
use borrow.Author.Tests.{ltb-true, lt-ltb}
use Rattle.format.specs.Entry.{pixel_type}
use Rattle.format.specs.Checks.{first}
use Rattle.format.specs.Directory.{tile_count, entry_place}
use Rattle.format.specs.Checks.{Accepted}
use Rattle.format.proofs.Below.{and_both}
use Rattle.format.proofs.Firsts.{passed, rows-each, rows_all}
use Rattle.plane.specs.declared.Rect.{Rect}
use Rattle.plane.specs.Cuts.{Meets}
use Rattle.tiles.specs.FileTile.{rectangle, meets}
use Rattle.question.specs.Question.{type_bad, agree_row, agree_rows}

-- ---- all entries, and each

module _ (bs : List ℕ) (chosen : ℕ → Bool) (w : Rect) (t : ℕ) where
  pub agree-ok : first (agree_rows bs chosen w t) ≡ Accepted → (k : ℕ) → k < tile_count bs → cond (chosen k) (type_bad bs w t (entry_place bs k)) false ≡ false
  unfolding agree_rows
  agree-ok e k h = passed (agree_row bs chosen w t k) (rows-each (tile_count bs) k (agree_row bs chosen w t) e h) 0

  pub agree-accepted : ((k : ℕ) → k < tile_count bs → cond (chosen k) (type_bad bs w t (entry_place bs k)) false ≡ false)
      → first (agree_rows bs chosen w t) ≡ Accepted
  unfolding agree_rows
  agree-accepted g = rows_all (tile_count bs) (agree_row bs chosen w t) (λ k h. rw (g k h))

-- ---- the test is the fact

pub meets-true : (a w : Rect) → meets a w ≡ true → Meets a w
unfolding meets
meets-true a w e =
    let both = and_both _ _ e in
    let across = and_both _ _ both.0 in
    let down = and_both _ _ both.1 in
    record {
      left = ltb-true _ _ across.0;
      right = ltb-true _ _ across.1;
      top = ltb-true _ _ down.0;
      bottom = ltb-true _ _ down.1;
    }

pub meets-is : (a w : Rect) → Meets a w → meets a w ≡ true
unfolding meets
meets-is a w m = rw (lt-ltb _ _ m.left, lt-ltb _ _ m.right, lt-ltb _ _ m.top, lt-ltb _ _ m.bottom)

-- ---- one entry, chosen or not, of the window w and of the window v

passes : (m n x : Bool) → (m ≡ true → n ≡ true) → cond n x false ≡ false → cond m x false ≡ false
passes false n x less h = refl
passes true n x less h = rw (less refl) at h

pub type-less : (bs : List ℕ) (w v : Rect) (t e : ℕ) → ((a : Rect) → Meets a v → Meets a w) → (c : Bool)
    → cond c (type_bad bs w t e) false ≡ false → cond c (type_bad bs v t e) false ≡ false
unfolding type_bad
type-less bs w v t e less false h = refl
type-less bs w v t e less true h =
    passes (meets (rectangle bs e) v) (meets (rectangle bs e) w) (not (eqb (pixel_type bs e) t))
    (λ q. meets-is (rectangle bs e) w (less (rectangle bs e) (meets-true (rectangle bs e) v q)))
    h
