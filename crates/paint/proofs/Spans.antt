-- Spans of a row: one whose pixels are all given, or all left, and two in turn.
use mathlib.Core.Path.{◌≡◌, refl, sym, ap, ap₂, ◌∙◌}
use mathlib.Core.Logic.{by_cases}
use Prim.Native.Nat.{ℕ, ◌+◌, ◌*◌, ◌-◌, ◌≤◌, ◌<◌}
use native.Mathlib.Nat.{mul-le-mul_right}
use native.Mathlib.Decide.{dec_lt}
use native.Mathlib.Omega.{arith}
use mathlib.Core.List.{List}
use mathlib.Core.Bool.{Bool, true, false, ◌&&◌, ◌||◌, and-false, true≢false}
use lib.Arith.{digits_lt}
use lib.Dec.{ltb, leb}
use lib.ListN.{length, get_or}
use mir.Syntax.{w8}
use mir.Val.{Fits}
use borrow.Author.Tests.{lt-ltb, le-ltb, le-leb, lt-leb}
use Rattle.plane.specs.Sums.{one, sum}
use Rattle.plane.specs.Paint.{bit, mark, paint}
use Rattle.plane.proofs.SumLaws.{sum-ext, sum-add, count-le, count_none, count-all}
use Rattle.plane.proofs.PaintLaws.{Bytes, mark-noop, mark-ext, mark-bit, mark-bytes, mark-length, paint-length, paint-none}
use Rattle.copies.proofs.Copies.{by-range, copied-length, copied-below, copied-in, copied-past}
use Rattle.paint.specs.declared.Row.{Row}
use Rattle.paint.specs.declared.Turn.{Turn}
use Rattle.paint.specs.declared.Turn.TheVariants.{Plain, Quick}
use Rattle.paint.specs.RowPainting.{valid_at, gives_pixel, row_gives, SpanPainted, SpanGiven}
use Rattle.paint.proofs.Painting.{painted-as, paint-then, mark-then}

-- the elements of a map that is lent are bytes
pub lent-bytes : (m : List ℕ) → ((k : ℕ) → Fits w8 (get_or m k 0)) → Bytes m
lent-bytes m f k = (f k).fits

-- what a turn gives is valid
given-valid : (k : Turn) (v s : Bool) → gives_pixel k v s ≡ true → v ≡ true
given-valid Plain v s e = e
given-valid Quick true s e = refl
given-valid Quick false s e = e

-- what it leaves sets no bit
left-sets : (k : Turn) (v s : Bool) → gives_pixel k v s ≡ false → (v || s) ≡ s
left-sets Plain false s e = refl
left-sets Plain true s e = absurd (true≢false e)
left-sets Quick false s e = refl
left-sets Quick true true e = refl
left-sets Quick true false e = e

-- what is not valid it leaves
pub left-invalid : (k : Turn) (v s : Bool) → v ≡ false → gives_pixel k v s ≡ false
left-invalid Plain v s e = e
left-invalid Quick v s e = rw e

-- ---- read off a span that is painted
module _ {d m d' m' : List ℕ} {row : Row} {i j g : ℕ} (o : SpanPainted d m row i j d' m' g) where
  pub span-given : g ≤ j - i
  span-given = rw o.given (count-le (j - i) (λ k. row_gives m row (i + k)))

  pub span-target : length d' ≡ length d
  span-target = ap length o.target ∙ paint-length j row.bytes _ _ d

  pub span-map : length m' ≡ length m
  span-map = ap length o.map ∙ mark-length (row.first + j) _ m

  pub span-bytes : Bytes m → Bytes m'
  span-bytes h k = rw o.map (mark-bytes (row.first + j) _ m h k)

  -- the bits of the pixels behind it stay
  pub span-behind : (p : ℕ) → j ≤ p → row.first + p < 8 * length m → bit m' (row.first + p) ≡ bit m (row.first + p)
  span-behind p l h = rw o.map (mark-bit (row.first + j) _ m (row.first + p) h ∙ rw (le-ltb (row.first + p) (row.first + j) (omega arith)))

module _ {d m : List ℕ} {row : Row} (hb : 1 ≤ row.bytes) where
  -- ---- a span whose pixels are all given
  pub span-all : {i j : ℕ} → ((p : ℕ) → i ≤ p → p < j → row_gives m row p ≡ true)
      → {d' m' : List ℕ} → SpanGiven d m row i j d' m' → SpanPainted d m row i j d' m' (j - i)
  span-all {i} {j} f g = record {
    target =
        g.target
        ∙ painted-as hb j _ _ d _ (copied-length d row.pixels.now _ _)
        (λ p q hq h. by-range i j p (λ l. copied-below d row.pixels.now _ _ _ h (digits_lt l hq) ∙ rw (lt-leb i p l, and-false (ltb p j)))
        (λ l r. copied-in d row.pixels.now _ _ _ h (omega (arith, mul-le-mul_right row.bytes l)) (digits_lt r hq)
        ∙ rw (lt-ltb p j r, le-leb i p l, f p l r))
        (λ l. copied-past d row.pixels.now _ _ _ h (omega (arith, mul-le-mul_right row.bytes l)) ∙ rw (le-ltb p j l)));
    map = g.map ∙ mark-ext (row.first + j) _ _ m valid;
    given = sym (count-all (j - i) _ (λ k l. f (i + k) (omega arith) (omega arith)));
  }
    where
      valid : (q : ℕ) → q < row.first + j → leb (row.first + i) q ≡ (leb (row.first + i) q && valid_at row (q - row.first))
      valid q l =
          by_cases (dec_lt q (row.first + i)) (λ c. rw (lt-leb (row.first + i) q c))
          (λ c. let p = q - row.first in
          rw (le-leb (row.first + i) q (omega arith)) (sym (given-valid row.turn _ (bit m (row.first + p)) (f p (omega arith) (omega arith)))))

  module _ (h : Bytes m) where
    -- ---- a span whose pixels are all left
    pub span_left : {i j : ℕ} → ((p : ℕ) → i ≤ p → p < j → row_gives m row p ≡ false) → SpanPainted d m row i j d m 0
    span_left {i} {j} f = record {
      target =
          sym (paint-none j row.bytes _ _ d hb
          (λ p l. by_cases (dec_lt p i) (λ c. rw (lt-leb i p c)) (λ c. rw (f p (omega arith) l) (and-false (leb i p)))));
      map = sym (mark-noop (row.first + j) _ m (λ k _. h k) kept);
      given = sym (count_none (j - i) _ (λ k l. f (i + k) (omega arith) (omega arith)));
    }
      where
        kept : (q : ℕ) → q < row.first + j → ((leb (row.first + i) q && valid_at row (q - row.first)) || bit m q) ≡ bit m q
        kept q l =
            by_cases (dec_lt q (row.first + i)) (λ c. rw (lt-leb (row.first + i) q c))
            (λ c.
            let p = q - row.first in
            let e : row.first + p ≡ q = omega arith in
            rw (le-leb (row.first + i) q (omega arith))
            (rw e at (left-sets row.turn (valid_at row p) (bit m (row.first + p)) (f p (omega arith) (omega arith)))))

    -- ---- two spans in turn
    pub span-then : {i j k : ℕ} → i ≤ j → j ≤ k → row.first + k ≤ 8 * length m → {d₁ m₁ d₂ m₂ : List ℕ} {g r : ℕ}
        → SpanPainted d m row i j d₁ m₁ g → SpanPainted d₁ m₁ row j k d₂ m₂ r → SpanPainted d m row i k d₂ m₂ (g + r)
    span-then {i} {j} {k} a c l {m₁ = m₁} o q = record {
      target =
          q.target ∙ ap (paint k row.bytes _ _) o.target
          ∙ paint-then c _ _ hb _ _ d (λ p e f. later p e f ∙ rw (le-leb i p (omega arith))) (λ _ _ _ _ _. refl);
      map = q.map ∙ ap (mark (row.first + k) _) o.map ∙ mark-then (omega arith) _ _ m h (λ p e _. rw (le-leb (row.first + i) p (omega arith)));
      given =
          ap₂ ◌+◌ o.given (q.given ∙ sum-ext (k - j) _ _ (λ t e. ap one (later (j + t) (omega arith) (omega arith) ∙ ap G (omega arith))))
          ∙ sym (sum-add (j - i) (k - j) (λ t. one (G (i + t)))) ∙ ap (λ (n : ℕ). sum n (λ t. one (G (i + t)))) (omega arith);
    }
      where
        G : ℕ → Bool
        G p = row_gives m row p

        later : (p : ℕ) → j ≤ p → p < k → row_gives m₁ row p ≡ G p
        later p e f = rw (span-behind o p e (omega arith))
