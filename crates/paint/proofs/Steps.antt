-- Steps along a row: a pixel, left or given, and what a run of the mask's bits, or of the map's, says of the span's pixels.
use mathlib.Core.Path.{ap₂, ◌≡◌, refl, sym, ap, ◌∙◌, subst}
use Prim.Native.Nat.{ℕ, ◌+◌, ◌*◌, ◌-◌, ◌≤◌, ◌<◌}
use native.Mathlib.Omega.{arith}
use mathlib.Core.List.{List}
use mathlib.Core.Bool.{Bool, true, false, and-false}
use Rattle.std.specs.Prelude.{Some, None}
use lib.Dec.{ltb, leb}
use lib.ListN.{length}
use borrow.Author.Tests.{lt-ltb}
use Rattle.plane.specs.Paint.{bit, mark}
use Rattle.plane.proofs.PaintLaws.{Bytes}
use Rattle.copies.specs.Copied.{copied}
use Rattle.runs.specs.Run.{Run}
use Rattle.paint.specs.declared.MaskLine.{MaskLine}
use Rattle.paint.specs.declared.Row.{Row}
use Rattle.paint.specs.declared.Turn.{Turn}
use Rattle.paint.specs.declared.Turn.TheVariants.{Plain, Quick}
use Rattle.paint.specs.RowPainting.{valid_at, gives_pixel, row_gives, SpanPainted, SpanGiven, Stepped, Open}
pub use Rattle.paint.proofs.Spans.{lent-bytes, left-invalid, span_left, span-all, span-behind}

-- a bit of a run that begins at number c + i, by its distance p from c
within : {f : ℕ → Bool} (c i : ℕ) {e : ℕ} {v : Bool} {r : ℕ} → Run f (c + i) e v r → (p : ℕ) → i ≤ p → p < r - c → f (c + p) ≡ v
within c i o p l h = o.same (c + p) (omega arith) (omega arith)

-- open pixels stay open while those before them are painted
pub open-behind : {d m d' m' : List ℕ} {row : Row} {i k g : ℕ} → SpanPainted d m row i k d' m' g
    → {j e : ℕ} → Open m row i j → i ≤ k → e ≤ j → row.first + j ≤ 8 * length m → Open m' row k e
open-behind o f a c l t p u h = span-behind o p u (omega arith) ∙ f t p (omega arith) (omega arith)

-- pixels that the map's run shows not covered are open
pub open-run : (m : List ℕ) (row : Row) (i : ℕ) {e z : ℕ} → Run (bit m) (row.first + i) e false z → Open m row i (z - row.first)
open-run m row i o k p l h = within row.first i o p l h

-- what is open and valid is given
open-valid : (k : Turn) (v s : Bool) → v ≡ true → (k ≡ Quick → s ≡ false) → gives_pixel k v s ≡ true
open-valid Quick v s e f = rw (e, f refl)
open-valid Plain v s e f = e

module _ {d m : List ℕ} {row : Row} {i : ℕ} (hb : 1 ≤ row.bytes) where
  -- ---- a pixel, whose first byte is number a, by a test's answer t

  pub pixel-left : Bytes m → {t : Bool} → t ≡ row_gives m row i → t ≡ false → SpanPainted d m row i (i + 1) d m 0
  pixel-left h e f = span_left hb h (λ p l r. ap (row_gives m row) (omega arith) ∙ sym e ∙ f)

  pub pixel-given : {a : ℕ} → a ≡ i * row.bytes → {t : Bool} → t ≡ row_gives m row i → t ≡ true → {d' m' : List ℕ}
      → d' ≡ copied d row.pixels.now a (a + row.bytes) → m' ≡ mark (row.first + i + 1) (λ q. leb (row.first + i) q) m
      → SpanPainted d m row i (i + 1) d' m' 1
  pixel-given z e f {d'} {m'} c g =
      subst (SpanPainted d m row i (i + 1) d' m') {x = i + 1 - i} {y = 1} (omega arith)
      (span-all hb (λ p l r. ap (row_gives m row) (omega arith) ∙ sym e ∙ f)
      (record { target = c ∙ ap₂ (copied d row.pixels.now) z (omega arith); map = g ∙ ap (λ (n : ℕ). mark n (leb (row.first + i)) m) (omega arith) }))

  -- ---- open pixels: all of them where there is no mask
  pub open-all : {j : ℕ} → row.mask ≡ None → Open m row i j → {d' m' : List ℕ} → SpanGiven d m row i j d' m'
      → SpanPainted d m row i j d' m' (j - i)
  open-all e o g = span-all hb (λ p a c. open-valid row.turn (valid_at row p) _ (rw e) (λ q. o q p a c)) g

  -- ---- long runs
  module _ {j : ℕ} where
    run_step : {f : ℕ → Bool} {v : Bool} (c : ℕ) {z g : ℕ} {d' m' : List ℕ} → Run f (c + i) (c + j) v z → 8 ≤ z - (c + i)
        → SpanPainted d m row i (z - c) d' m' g → Stepped d m row i j d' m' (z - c) g
    run_step c o l p = record { on = omega arith; end = omega arith; painted = p }

    -- a run of valid columns, all given
    pub step-valid : {k : MaskLine} → row.mask ≡ Some k → k.column + j ≤ k.columns → Open m row i j → {v : ℕ}
        → Run (bit k.bits.now) (k.column + i) (k.column + j) true v
        → 8 ≤ v - (k.column + i) → {d' m' : List ℕ} → SpanGiven d m row i (v - k.column) d' m'
        → Stepped d m row i j d' m' (v - k.column) (v - k.column - i)
    step-valid {k} e w o {v} r l g =
        run_step k.column r l (span-all hb (λ p a c. open-valid row.turn (valid_at row p) _ (valid p a c) (λ q. o q p a (omega arith))) g)
      where
        valid : (p : ℕ) → i ≤ p → p < v - k.column → valid_at row p ≡ true
        valid p a c = rw (e, lt-ltb (k.column + p) k.columns (omega arith), within k.column i r p a c)

    -- a run of columns that are not
    pub step-invalid : {k : MaskLine} → Bytes m → row.mask ≡ Some k → {o : ℕ} → Run (bit k.bits.now) (k.column + i) (k.column + j) false o
        → 8 ≤ o - (k.column + i) → Stepped d m row i j d m (o - k.column) 0
    step-invalid {k} h e r l =
        run_step k.column r l
        (span_left {row = row} hb h (λ p a c. left-invalid row.turn _ _ (rw (e, within k.column i r p a c, and-false (ltb (k.column + p) k.columns)))))

    -- a run of covered pixels, in a quick turn
    pub step-covered : Bytes m → row.turn ≡ Quick → {o : ℕ} → Run (bit m) (row.first + i) (row.first + j) true o → 8 ≤ o - (row.first + i)
        → Stepped d m row i j d m (o - row.first) 0
    step-covered h e r l = run_step row.first r l (span_left hb h (λ p a c. rw (e, within row.first i r p a c) (and-false (valid_at row p))))
