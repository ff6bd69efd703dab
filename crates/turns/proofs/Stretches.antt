-- A row's stretch of a target that is lent whole.
use mathlib.Core.Path.{◌≡◌, sym, ap, ◌∙◌}
use Prim.Native.Nat.{ℕ, ◌+◌, ◌*◌, ◌-◌, ◌<◌}
use native.Mathlib.Nat.{add-sub_of_le, mul-le-mul_right}
use native.Mathlib.Omega.{arith}
use mathlib.Core.List.{List}
use mathlib.Core.Bool.{cond, ◌&&◌, and-false}
use lib.Arith.{digits_lt}
use lib.Dec.{leb, ltb}
use lib.ListN.{length, get_or}
use borrow.Author.Tests.{lt-ltb, le-ltb, le-leb, lt-leb}
use borrow.Rule.Slice.PartMut.{mid_of, put_mid, mid_len}
use Rattle.plane.proofs.PaintLaws.{paint-length, paint-in}
use Rattle.paint.specs.declared.Row.{Row}
use Rattle.paint.specs.RowPainting.{row_gives, RowPainted}
use Rattle.paint.proofs.Painting.{by-range, painted-as}
use Rattle.turns.specs.Turned.{StretchRoom, StretchPainted}
use Rattle.turns.proofs.Parts.{mid_at, put-below, put_in, put-past, put-length}

-- where a row's stretch begins and ends
abbrev begin : Row → ℕ
begin row = row.first * row.bytes

abbrev end : Row → ℕ → ℕ
end row n = row.first * row.bytes + n * row.bytes

-- the part that is lent to the row painter
abbrev stretch : List ℕ → Row → ℕ → List ℕ
stretch t row n = mid_of (begin row) (end row n - begin row) t

module _ {t m : List ℕ} {row : Row} {n : ℕ} (h : StretchRoom t m row n) where
  -- what the row painter does to it, said of the whole
  pub stretch-painted : {ys m' : List ℕ} {r : ℕ} → RowPainted (stretch t row n) m row n ys m' r
      → StretchPainted t m row n (put_mid (begin row) (end row n - begin row) t ys) m' r
  stretch-painted {ys} {m'} {r} o = record {
    target = painted-as h.bytes (row.first + n) _ _ t _ (put-length (begin row) (end row n) t ys (omega arith) (omega arith) l) at;
    map = o.map;
    given = o.given;
  }
    where
      b : ℕ
      b = row.bytes

      l : length ys ≡ end row n - begin row
      l = ap length o.target ∙ paint-length n b _ _ (stretch t row n) ∙ mid_len (begin row) (end row n) t (omega arith)

      at : (p q : ℕ) → q < b → p * b + q < length t → get_or (put_mid (begin row) (end row n - begin row) t ys) (p * b + q) 0
          ≡ cond (ltb p (row.first + n) && (leb row.first p && row_gives m row (p - row.first)))
          (get_or row.pixels.now ((p - row.first) * b + q) 0) (get_or t (p * b + q) 0)
      at p q hq _ =
          by-range row.first (row.first + n) p
          (λ e. put-below (begin row) (end row n) t ys (omega arith) (omega arith) l _ (digits_lt e hq)
          ∙ rw (lt-leb row.first p e, and-false (ltb p (row.first + n))))
          (λ e f.
          let i = p - row.first in
          let place : p * b + q ≡ begin row + (i * b + q) = ap (λ (z : ℕ). z * b + q) (sym (add-sub_of_le e)) ∙ omega arith in
          let small : i * b + q < n * b = digits_lt (omega arith) hq in
          rw (lt-ltb p (row.first + n) f, le-leb row.first p e, place)
          (put_in (begin row) (end row n) t ys (omega arith) (omega arith) l (i * b + q) (omega arith)
          ∙ ap (λ (z : List ℕ). get_or z (i * b + q) 0) o.target
          ∙ paint-in n b _ _ (stretch t row n) (rw (mid_len (begin row) (end row n) t (omega arith)) (omega arith)) i q (omega arith) hq
          ∙ ap (cond (row_gives m row i) (get_or row.pixels.now (i * b + q) 0)) (mid_at (begin row) (end row n) t (i * b + q) (omega arith))))
          (λ e. put-past (begin row) (end row n) t ys (omega arith) (omega arith) l _ (omega (arith, mul-le-mul_right b e))
          ∙ rw (le-ltb p (row.first + n) e))
