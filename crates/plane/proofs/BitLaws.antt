-- Laws of a byte's bits, counted from the high one.
use mathlib.Core.Path.{◌≡◌, refl, sym, ap, ◌∙◌}
use Prim.Native.Nat.{ℕ, zero, suc, ◌+◌, ◌*◌, ◌/◌, ◌%◌, ◌≤◌, ◌<◌}
use native.Mathlib.Omega.{arith}
use mathlib.Core.Bool.{Bool, true, false}
use lib.Dec.{eqb, lit<}
use Rattle.plane.specs.Sums.{one}
use Rattle.plane.specs.Paint.{bit_in, pack}
use Rattle.plane.proofs.SumLaws.{one-le}

pub eqb-one : (b : Bool) (x : ℕ) → x ≡ one b → eqb x 1 ≡ b
eqb-one true x e = ap (λ (y : ℕ). eqb y 1) e
eqb-one false x e = ap (λ (y : ℕ). eqb y 1) e

-- a fact of each number below 8
pub each8 : (P : ℕ → Type 0) → P 0 → P 1 → P 2 → P 3 → P 4 → P 5 → P 6 → P 7 → (i : ℕ) → i < 8 → P i
each8 P a b c d e f g h zero l = a
each8 P a b c d e f g h (suc zero) l = b
each8 P a b c d e f g h (suc (suc zero)) l = c
each8 P a b c d e f g h (suc (suc (suc zero))) l = d
each8 P a b c d e f g h (suc (suc (suc (suc zero)))) l = e
each8 P a b c d e f g h (suc (suc (suc (suc (suc zero))))) l = f
each8 P a b c d e f g h (suc (suc (suc (suc (suc (suc zero)))))) l = g
each8 P a b c d e f g h (suc (suc (suc (suc (suc (suc (suc zero))))))) l = h
each8 P a b c d e f g h (suc (suc (suc (suc (suc (suc (suc (suc n)))))))) l = absurd (omega arith)

module _ (f : ℕ → Bool) where
  one_each : (one (f 0) ≤ 1) × (one (f 1) ≤ 1) × (one (f 2) ≤ 1) × (one (f 3) ≤ 1) × (one (f 4) ≤ 1) × (one (f 5) ≤ 1) × (one (f 6) ≤ 1) × (one (f 7) ≤ 1)
  one_each = search one-le

  pub pack-lt : pack f < 256
  unfolding pack
  pack-lt = omega (arith, one_each)

  pub bit-pack : (i : ℕ) → i < 8 → bit_in (pack f) i ≡ f i
  unfolding bit_in pack
  bit-pack =
      each8 (λ (i : ℕ). bit_in (pack f) i ≡ f i)
      (eqb-one (f 0) (pack f / 128 % 2) (omega (arith, one_each)))
      (eqb-one (f 1) (pack f / 64 % 2) (omega (arith, one_each)))
      (eqb-one (f 2) (pack f / 32 % 2) (omega (arith, one_each)))
      (eqb-one (f 3) (pack f / 16 % 2) (omega (arith, one_each)))
      (eqb-one (f 4) (pack f / 8 % 2) (omega (arith, one_each)))
      (eqb-one (f 5) (pack f / 4 % 2) (omega (arith, one_each)))
      (eqb-one (f 6) (pack f / 2 % 2) (omega (arith, one_each)))
      (eqb-one (f 7) (pack f / 1 % 2) (omega (arith, one_each)))

-- a digit, from its test
pub digit : (a : ℕ) → one (eqb (a % 2) 1) ≡ a % 2
digit a = go (a % 2) (omega arith)
  where
    go : (r : ℕ) → r < 2 → one (eqb r 1) ≡ r
    go zero h = refl
    go (suc zero) h = refl
    go (suc (suc r)) h = absurd (omega arith)

-- a byte is what its bits pack to: a number below 256 by its halves and what each leaves
halves : (x y₁ y₂ y₃ y₄ y₅ y₆ y₇ b₀ b₁ b₂ b₃ b₄ b₅ b₆ b₇ : ℕ)
    → x ≡ y₁ * 2 + b₀ → y₁ ≡ y₂ * 2 + b₁ → y₂ ≡ y₃ * 2 + b₂ → y₃ ≡ y₄ * 2 + b₃ → y₄ ≡ y₅ * 2 + b₄ → y₅ ≡ y₆ * 2 + b₅ → y₆ ≡ y₇ * 2 + b₆ → y₇ ≡ b₇
    → x ≡ b₇ * 128 + b₆ * 64 + b₅ * 32 + b₄ * 16 + b₃ * 8 + b₂ * 4 + b₁ * 2 + b₀
halves x y₁ y₂ y₃ y₄ y₅ y₆ y₇ b₀ b₁ b₂ b₃ b₄ b₅ b₆ b₇ e₀ e₁ e₂ e₃ e₄ e₅ e₆ e₇ = omega arith

pub pack-bits : (x : ℕ) → x < 256 → x ≡ pack (bit_in x)
unfolding bit_in pack
pack-bits x h =
    halves x (x / 2) (x / 4) (x / 8) (x / 16) (x / 32) (x / 64) (x / 128) _ _ _ _ _ _ _ _
    (omega (arith, digit (x / 1)))
    (omega (arith, digit (x / 2)))
    (omega (arith, digit (x / 4)))
    (omega (arith, digit (x / 8)))
    (omega (arith, digit (x / 16)))
    (omega (arith, digit (x / 32)))
    (omega (arith, digit (x / 64)))
    (omega (arith, digit (x / 128)))

-- two bytes with the same bits
pub same_bits : (x y : ℕ) → x < 256 → y < 256 → ((i : ℕ) → i < 8 → bit_in x i ≡ bit_in y i) → x ≡ y
unfolding pack
same_bits x y hx hy e = pack-bits x hx ∙ simp (e, lit<, tt {0}) (sym (pack-bits y hy))
