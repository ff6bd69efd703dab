-- The bits of a byte made by `|` or `^`, and of the bytes whose set bits are one run.
use mathlib.Core.Path.{◌≡◌, refl, sym, ap, ap₂, ◌∙◌}
use mathlib.Core.Logic.{by_cases}
use Prim.Native.Nat.{ℕ, zero, suc, ◌+◌, ◌-◌, ◌/◌, ◌%◌, ◌^◌, ◌≤◌, ◌<◌}
use native.Mathlib.Nat.{div-eq_of_lt}
use native.Mathlib.Decide.{dec_lt, dec_le}
use native.Mathlib.Omega.{arith}
use mathlib.Core.Bool.{Bool, true, false, xor, ◌&&◌, ◌||◌}
use lib.Bits.{bit_or, bit_xor, or_shr, or_mod, xor_shr, xor_mod, xor_lt}
use lib.Dec.{leb, ltb, eqb}
use lib.Pow.{pow_mono, shr-shr, shr_le}
use borrow.Author.Tests.{lt-ltb, le-ltb, le-leb, lt-leb}
use Rattle.plane.specs.Paint.{bit_in, pack}
use Rattle.plane.proofs.BitLaws.{each8, bit-pack, pack-lt, same_bits}

-- an operation that goes digit by digit goes bit by bit
module _ (op : ℕ → ℕ → ℕ) (on : Bool → Bool → Bool)
    (high : (a b k : ℕ) → op a b / 2 ^ k ≡ op (a / 2 ^ k) (b / 2 ^ k))
    (low : (a b k : ℕ) → op a b % 2 ^ k ≡ op (a % 2 ^ k) (b % 2 ^ k))
    (d₀₀ : eqb (op 0 0) 1 ≡ on false false) (d₀₁ : eqb (op 0 1) 1 ≡ on false true)
    (d₁₀ : eqb (op 1 0) 1 ≡ on true false) (d₁₁ : eqb (op 1 1) 1 ≡ on true true) where
  digits : (a b : ℕ) → a < 2 → b < 2 → eqb (op a b) 1 ≡ on (eqb a 1) (eqb b 1)
  digits zero zero h l = d₀₀
  digits zero (suc zero) h l = d₀₁
  digits (suc zero) zero h l = d₁₀
  digits (suc zero) (suc zero) h l = d₁₁
  digits zero (suc (suc b)) h l = absurd (omega arith)
  digits (suc zero) (suc (suc b)) h l = absurd (omega arith)
  digits (suc (suc a)) b h l = absurd (omega arith)

  op-bit : (x y i : ℕ) → bit_in (op x y) i ≡ on (bit_in x i) (bit_in y i)
  unfolding bit_in
  op-bit x y i =
      ap (λ (z : ℕ). eqb (z % 2) 1) (high x y (7 - i))
      ∙ ap (λ (z : ℕ). eqb z 1) (low (x / 2 ^ (7 - i)) (y / 2 ^ (7 - i)) 1)
      ∙ digits _ _ (omega arith) (omega arith)

pub or-bit : (x y i : ℕ) → bit_in (bit_or x y) i ≡ (bit_in x i || bit_in y i)
or-bit = op-bit bit_or ◌||◌ or_shr or_mod refl refl refl refl

xor-bit : (x y i : ℕ) → bit_in (bit_xor x y) i ≡ xor (bit_in x i) (bit_in y i)
unfolding xor
xor-bit = op-bit bit_xor xor xor_shr xor_mod refl refl refl refl

-- a byte of ones shifted down by s: the bits from number s on
odd : (e : ℕ) → e < 8 → eqb (255 / 2 ^ e % 2) 1 ≡ true
odd = each8 (λ e. eqb (255 / 2 ^ e % 2) 1 ≡ true) refl refl refl refl refl refl refl refl

ones_bit : (s i : ℕ) → i < 8 → bit_in (255 / 2 ^ s) i ≡ leb s i
unfolding bit_in
ones_bit s i l =
    ap (λ (z : ℕ). eqb (z % 2) 1) (shr-shr 255 s (7 - i))
    ∙ by_cases (dec_le s i) (λ h. odd (s + (7 - i)) (omega arith) ∙ sym (le-leb s i h))
    (λ h. ap (λ (z : ℕ). eqb (z % 2) 1) (div-eq_of_lt (pow_mono {i = 8} {j = s + (7 - i)} (omega arith))) ∙ sym (lt-leb s i (omega arith)))

-- the byte whose set bits are those from number s up to number t
module _ (s t : ℕ) (h : s ≤ t) where
  pub run-lt : bit_xor (255 / 2 ^ s) (255 / 2 ^ t) < 256
  run-lt = xor_lt 8 (255 / 2 ^ s) (255 / 2 ^ t) (omega (arith, shr_le 255 s)) (omega (arith, shr_le 255 t))

  pub run-packs : bit_xor (255 / 2 ^ s) (255 / 2 ^ t) ≡ pack (λ i. leb s i && ltb i t)
  unfolding xor
  run-packs =
      same_bits _ _ run-lt (pack-lt _)
      (λ i l. xor-bit (255 / 2 ^ s) (255 / 2 ^ t) i ∙ ap₂ xor (ones_bit s i l) (ones_bit t i l) ∙ between i
      ∙ sym (bit-pack (λ i. leb s i && ltb i t) i l))
    where
      between : (i : ℕ) → xor (leb s i) (leb t i) ≡ (leb s i && ltb i t)
      between i =
          by_cases (dec_le s i)
          (λ a. by_cases (dec_lt i t) (λ b. rw (le-leb s i a, lt-leb t i b, lt-ltb i t b))
          (λ b. rw (le-leb s i a, le-leb t i (omega arith), le-ltb i t (omega arith))))
          (λ a. rw (lt-leb s i (omega arith), lt-leb t i (omega arith)))

-- the byte whose one set bit is number i
pub one-packs : (i : ℕ) → i < 8 → 128 / 2 ^ i ≡ pack (λ j. leb i j && ltb j (i + 1))
unfolding pack
one-packs = each8 (λ i. 128 / 2 ^ i ≡ pack (λ j. leb i j && ltb j (i + 1))) refl refl refl refl refl refl refl refl
