-- A loop along the pixels of a row from number i up to number j; its invariant: those before number k are painted.
use mathlib.Core.Path.{◌≡◌, subst}
use Prim.Native.Nat.{ℕ, ◌+◌, ◌*◌, ◌^◌, ◌≤◌, ◌<◌}
use native.Mathlib.Nat.{mul-le-mul_right}
use native.Mathlib.Omega.{arith}
use mathlib.Core.List.{List}
use Rattle.std.specs.Prelude.{Some}
use lib.ListN.{length}
use mir.Syntax.{w64}
use mir.Val.{Fits}
use borrow.Author.Tests.{le-ltb}
use Rattle.plane.proofs.PaintLaws.{Bytes}
use Rattle.paint.specs.declared.MaskLine.{MaskLine}
use Rattle.paint.specs.declared.Row.{Row}
use Rattle.paint.specs.RowPainting.{RowRoom, SpanRoom, SpanPainted}
pub use Rattle.paint.proofs.Rooms.{room-less}
pub use Rattle.paint.proofs.Spans.{lent-bytes, left-invalid, span_left, span-then, span-given, span-target, span-map, span-bytes}

pub record Along (d m : List ℕ) (row : Row) (i j k : ℕ) (d' m' : List ℕ) (g : ℕ) : Type 0 where
  pub room : RowRoom d m row j
  pub bytes : Bytes m
  pub low : i ≤ k
  pub high : k ≤ j
  pub painted : SpanPainted d m row i k d' m' g

pub along-start : {d m : List ℕ} {row : Row} {i j : ℕ} → RowRoom d m row j → i ≤ j → Bytes m → Along d m row i j i d m 0
along-start r l h = record { room = r; bytes = h; low = omega arith; high = l; painted = span_left r.bytes h (λ p a c. absurd (omega arith)) }

module _ {d m d₁ m₁ : List ℕ} {row : Row} {i j k g : ℕ} (o : Along d m row i j k d₁ m₁ g) where
  -- the room that is left
  pub along-less : {e : ℕ} → e ≤ j → RowRoom d₁ m₁ row e
  along-less l = room-less o.room l (span-target o.painted) (span-map o.painted)

  pub along-room : SpanRoom d₁ m₁ row k j
  along-room = record { order = o.high; room = along-less (omega arith) }

  -- the pixel after this one, whose first byte is number a, ends within the row
  pub along-byte : {a : ℕ} → a ≡ k * row.bytes → k < j → length d < 2 ^ 64 → Fits w64 (a + row.bytes)
  along-byte e l h = omega (arith, mul-le-mul_right row.bytes l, o.room.target)

  -- the pixels up to number n more
  module _ {d₂ m₂ : List ℕ} {n r : ℕ} (p : SpanPainted d₁ m₁ row k n d₂ m₂ r) (a : k < n) (e : n ≤ j) where
    pub along-sum : Fits w64 (g + r)
    along-sum = omega (arith, span-given o.painted, span-given p)

    pub along-next : Along d m row i j n d₂ m₂ (g + r)
    along-next = record {
      room = o.room;
      bytes = o.bytes;
      low = omega arith;
      high = e;
      painted = span-then o.room.bytes o.bytes o.low (omega arith) (omega arith) o.painted p;
    }

  -- all the pixels that have a column in the mask are painted: those behind them are left
  pub along-masked : {q : MaskLine} {z : ℕ} → j ≤ k → j ≤ z → row.first + z ≤ 8 * length m → row.mask ≡ Some q
      → (j < z → q.columns ≤ q.column + j) → SpanPainted d m row i z d₁ m₁ g
  along-masked {q} {z} l h b e f =
      subst (SpanPainted d m row i z d₁ m₁) {x = g + 0} {y = g} (omega arith)
      (span-then o.room.bytes o.bytes o.low (omega arith) b o.painted
      (span_left o.room.bytes (span-bytes o.painted o.bytes)
      (λ p a c. left-invalid row.turn _ _ (rw (e, le-ltb (q.column + p) q.columns (omega (arith, f (omega arith))))))))
