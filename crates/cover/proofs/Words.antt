-- The ones of a word of eight bytes are those of its bytes, so those of the map's bits.
use mathlib.Core.Path.{◌≡◌, ap, ◌∙◌}
use Prim.Native.Nat.{ℕ, ◌+◌, ◌*◌, ◌^◌, ◌<◌}
use native.Mathlib.Nat.{add_comm, mul_comm}
use native.Mathlib.Omega.{arith}
use mathlib.Core.List.{List}
use lib.Count as Count
use lib.Count.{ones_cat}
use lib.ListN.{get_or}
use Rattle.format.specs.Bytes.{u32_at, u64_at}
use Rattle.fields.proofs.Words.{u32-lt}
use Rattle.plane.specs.Paint.{ones}
use Rattle.plane.proofs.PaintLaws.{Bytes}
use Rattle.cover.proofs.Ones.{next-byte}

-- the k low digits of a number apart
low : (k r a : ℕ) → r < 2 ^ k → Count.ones (r + 2 ^ k * a) ≡ Count.ones r + Count.ones a
low k r a h =
    ap Count.ones (add_comm r (2 ^ k * a) ∙ ap (λ (z : ℕ). z + r) (mul_comm (2 ^ k) a)) ∙ ones_cat k a r h ∙ add_comm (Count.ones a) (Count.ones r)

four_bytes : (a b c d : ℕ) → a < 256 → b < 256 → c < 256
    → Count.ones (a + 256 * b + 65536 * c + 16777216 * d) ≡ Count.ones a + Count.ones b + Count.ones c + Count.ones d
four_bytes a b c d e f g =
    ap Count.ones {x = a + 256 * b + 65536 * c + 16777216 * d} {y = a + 256 * (b + 256 * (c + 256 * d))} (omega arith)
    ∙ omega (arith, low 8 a (b + 256 * (c + 256 * d)) e, low 8 b (c + 256 * d) f, low 8 c d g)

module _ (m : List ℕ) (h : Bytes m) where
  -- the half word at byte p, up to bit number n
  next-half : (p n : ℕ) → n ≡ 8 * (p + 4) → ones (8 * p) m + Count.ones (u32_at m p) ≡ ones n m
  unfolding u32_at
  next-half p n e =
      omega (
        arith,
        four_bytes (get_or m p 0) (get_or m (p + 1) 0) (get_or m (p + 2) 0) (get_or m (p + 3) 0) (h p) (h (p + 1)) (h (p + 2)),
        next-byte m h p (8 * (p + 1)) (omega arith),
        next-byte m h (p + 1) (8 * (p + 2)) (omega arith),
        next-byte m h (p + 2) (8 * (p + 3)) (omega arith),
        next-byte m h (p + 3) n (omega arith),
      )

  -- word k
  pub next_word : (k : ℕ) → ones (64 * k) m + Count.ones (u64_at m (8 * k)) ≡ ones (64 * (k + 1)) m
  unfolding u64_at
  next_word k =
      let p = 8 * k in
      let start : ones (64 * k) m ≡ ones (8 * p) m = ap (λ (n : ℕ). ones n m) (omega arith) in
      omega (
        arith,
        low 32 (u32_at m p) (u32_at m (p + 4)) (u32-lt m h p),
        next-half p (8 * (p + 4)) (omega arith),
        next-half (p + 4) (64 * (k + 1)) (omega arith),
      )
