-- A turn, as far as pixel number n: its rows' stretches make it up, one after the other.
use mathlib.Core.Path.{◌≡◌, refl, sym, ap, ap₂, ◌∙◌, subst, fun_ext}
use Prim.Native.Nat.{ℕ, ◌+◌, ◌*◌, ◌-◌, ◌≤◌, ◌<◌}
use native.Mathlib.Nat.{add-sub_of_le, add-sub_cancel_left, le-add_right}
use native.Mathlib.Omega.{arith}
use mathlib.Core.List.{List}
use mathlib.Core.Bool.{Bool, true, false, ◌||◌, and-false}
use lib.Dec.{leb}
use lib.ListN.{length, get_or}
use borrow.Author.Tests.{le-ltb}
use Rattle.plane.specs.Sums.{one, count}
use Rattle.plane.specs.Tiles.{Tile, area, col_of, row_of, gives_at}
use Rattle.plane.specs.Paint.{bit, paint, mark}
use Rattle.plane.specs.Turns.{Painting, turn_gives, turn}
use Rattle.plane.specs.declared.Rect.{Rect}
use Rattle.plane.proofs.SumLaws.{sum-ext, sum-add, count_none}
use Rattle.plane.proofs.PaintLaws.{Bytes, paint-none, mark-bit, mark-bytes, mark-noop}
use Rattle.paint.specs.declared.Row.{Row}
use Rattle.paint.specs.declared.Turn.{Turn}
use Rattle.paint.specs.declared.Turn.TheVariants.{Plain, Quick}
use Rattle.paint.specs.RowPainting.{valid_at, gives_pixel, row_gives}
use Rattle.paint.proofs.Painting.{paint-then, mark-then}
use Rattle.turns.specs.Turned.{StretchPainted, kind_of}

-- what `on` gives of the pixels before number n is given, with the bytes that px says
pub record Done (b : ℕ) (on : ℕ → Bool) (px : ℕ → ℕ → ℕ) (t₀ m₀ : List ℕ) (n : ℕ) (t m : List ℕ) (g : ℕ) : Type 0 where
  pub target : t ≡ paint n b on px t₀
  pub map : m ≡ mark n on m₀
  pub given : g ≡ count n on

-- the bit is set as well by all that is valid
gives-or : (q : Turn) (v s : Bool) → (v || s) ≡ (gives_pixel q v s || s)
gives-or Plain v s = refl
gives-or Quick true true = refl
gives-or Quick true false = refl
gives-or Quick false s = refl

module _ {b : ℕ} {on : ℕ → Bool} {px : ℕ → ℕ → ℕ} {t₀ m₀ : List ℕ} (hb : 1 ≤ b) (hm : Bytes m₀) where
  -- pixels of which none is given are done with nothing, from the first on and after others
  pub done_none : (n : ℕ) → ((p : ℕ) → p < n → on p ≡ false) → Done b on px t₀ m₀ n t₀ m₀ 0
  done_none n off = record {
    target = sym (paint-none n b _ _ t₀ hb off);
    map = sym (mark-noop n _ m₀ (λ k _. hm k) (λ p l. rw (off p l)));
    given = sym (count_none n _ off);
  }

  pub done_more : {n n' g : ℕ} {t m : List ℕ} → Done b on px t₀ m₀ n t m g → n ≤ n'
      → ((p : ℕ) → n ≤ p → p < n' → on p ≡ false) → Done b on px t₀ m₀ n' t m g
  done_more {n} {n'} o l off = record {
    target =
        o.target ∙ sym (paint-none n' b _ px _ hb (λ p _. and-false (leb n p)))
        ∙ paint-then l on (λ _. false) hb px px t₀ (λ p h i. sym (off p h i)) (λ _ _ _ _ _. refl);
    map =
        o.map ∙ sym (mark-noop n' _ _ (λ k _. mark-bytes n on m₀ hm k) (λ p _. rw (and-false (leb n p))))
        ∙ mark-then l on (λ _. false) m₀ hm (λ p h i. rw (off p h i));
    given = o.given ∙ omega (arith, rw (add-sub_of_le l) at (sum-add n (n' - n) (λ i. one (on i))), rest);
  }
    where
      rest : count (n' - n) (λ i. on (n + i)) ≡ 0
      rest = count_none _ _ (λ i h. off (n + i) (omega arith) (omega arith))

-- a stretch
module _ {row : Row} {on : ℕ → Bool} {px : ℕ → ℕ → ℕ} {t₀ m₀ : List ℕ} (hb : 1 ≤ row.bytes) (hm : Bytes m₀) where
  pub done-stretch : {t₁ m₁ t₂ m₂ : List ℕ} {n g r : ℕ} → Done row.bytes on px t₀ m₀ row.first t₁ m₁ g
      → StretchPainted t₁ m₁ row n t₂ m₂ r → row.first + n ≤ 8 * length m₀
      → ((p : ℕ) → row.first ≤ p → p < row.first + n → on p ≡ gives_pixel row.turn (valid_at row (p - row.first)) (bit m₀ p))
      → ((p j : ℕ) → row.first ≤ p → p < row.first + n → j < row.bytes → get_or row.pixels.now ((p - row.first) * row.bytes + j) 0 ≡ px p j)
      → Done row.bytes on px t₀ m₀ (row.first + n) t₂ m₂ (g + r)
  done-stretch {m₁ = m₁} {n = n} o c room valid bytes = record {
    target = c.target ∙ ap (paint (row.first + n) row.bytes _ _) o.target ∙ paint-then (le-add_right _ n) on _ hb px _ t₀ gave bytes;
    map =
        c.map ∙ ap (mark (row.first + n) _) o.map
        ∙ mark-then (le-add_right _ n) on _ m₀ hm
        (λ p l h. rw (valid p l h) (gives-or row.turn (valid_at row (p - row.first)) (bit m₀ p)));
    given =
        ap₂ ◌+◌ o.given
        (c.given ∙ sum-ext n _ _ (λ i h. ap one (rw (add-sub_cancel_left row.first i) at (gave (row.first + i) (le-add_right _ i) (omega arith)))))
        ∙ sym (sum-add row.first n _);
  }
    where
      still : (p : ℕ) → row.first ≤ p → p < row.first + n → bit m₁ p ≡ bit m₀ p
      still p l h = rw o.map (mark-bit row.first on m₀ p (omega arith) ∙ rw (le-ltb p row.first l))

      gave : (p : ℕ) → row.first ≤ p → p < row.first + n → row_gives m₁ row (p - row.first) ≡ on p
      gave p l h = rw (add-sub_of_le l, still p l h) (sym (valid p l h))

-- all of a tile's turn; the row painter's test is the turn's
kind-gives : (q : Turn) (w : Rect) (t : Tile) (m : List ℕ) (p : ℕ) → gives_pixel q (gives_at w t p) (bit m p) ≡ turn_gives (kind_of q) w t m p
kind-gives Quick w t m p = refl
kind-gives Plain w t m p = refl

pub done_all : (q : Turn) (w : Rect) (b : ℕ) (t : Tile) {t₀ m₀ t₁ m₁ : List ℕ} (stored : ℕ) {g : ℕ}
    → Done b (λ p. gives_pixel q (gives_at w t p) (bit m₀ p)) (λ p j. t.byte (col_of w p) (row_of w p) j) t₀ m₀ (area w) t₁ m₁ g
    → ◌≡◌ {A = Painting} (record { target = t₁; map = m₁; stored = stored + g })
    (turn (kind_of q) w b t (record { target = t₀; map = m₀; stored = stored }))
unfolding turn
done_all q w b t {t₀} {m₀} {t₁} {m₁} stored {g} o i =
    let px : ℕ → ℕ → ℕ = λ p j. t.byte (col_of w p) (row_of w p) j in
    let d = subst (λ (on : ℕ → Bool). Done b on px t₀ m₀ (area w) t₁ m₁ g) (fun_ext (kind-gives q w t m₀)) o in
    record { target = d.target i; map = d.map i; stored = stored + d.given i }
