-- Digits, and the number that they spell, digit by digit. Assumes nothing.
use Prim.Native.Nat.{ℕ, zero, suc, ◌+◌, ◌-◌, ◌*◌, ◌^◌, ◌≤◌, ◌<◌}
use mathlib.Core.Path.{◌≡◌, refl}
use mathlib.Core.List.{List, [], ◌∷◌}
use mathlib.Core.Bool.{Bool, true}
use native.Mathlib.Nat.{mul-le-mul}
use native.Mathlib.Numerals.{add-one}
use native.Mathlib.Omega.{arith}
use lib.ListN.{length, get_or, drop, length-drop, drop_of_length-le}
use lib.Dec.{leb}
use lib.Seq.{drop-cons}
use borrow.Author.Tests.{leb-true}
use Rattle.format.specs.Markup.{every}
use Rattle.format.proofs.Below.{and_both}
use Rattle.settings.specs.Settings.{digit, digits_value}

-- ---- a digit

digit_low : (b : ℕ) → digit b ≡ true → 48 ≤ b
unfolding digit
digit_low b h = leb-true 48 b (and_both (leb 48 b) (leb b 57) h).0

digit-high : (b : ℕ) → digit b ≡ true → b ≤ 57
unfolding digit
digit-high b h = leb-true b 57 (and_both (leb 48 b) (leb b 57) h).1

-- ---- the number so far

every_first : (of : ℕ → Bool) (b : ℕ) (bs : List ℕ) → every of (b ∷ bs) ≡ true → (of b ≡ true) × (every of bs ≡ true)
unfolding every
every_first of b bs h = and_both (of b) (every of bs) h

number-first : (d : ℕ) (ds : List ℕ) → digits_value (d ∷ ds) ≡ (d - 48) * 10 ^ length ds + digits_value ds
unfolding digits_value
number-first d ds = refl

number-none : digits_value [] ≡ 0
unfolding digits_value
number-none = refl

-- of the digits ds the first i make n
pub record Spelling (ds : List ℕ) (n i : ℕ) : Type 0 where
  pub to : i ≤ length ds
  pub left : every digit (drop i ds) ≡ true
  pub below : n < 10 ^ i
  pub makes : n * 10 ^ (length ds - i) + digits_value (drop i ds) ≡ digits_value ds

pub spelling-start : (ds : List ℕ) → every digit ds ≡ true → Spelling ds 0 0
spelling-start ds e = record { to = omega arith; left = e; below = omega arith; makes = omega arith }

-- one digit more: t is what it stands for with the digits behind it
one_more : (n e p r t m : ℕ) → t ≡ e * p + r → n * (10 * p) + t ≡ m → (10 * n + e) * p + r ≡ m
one_more n e p r t m h k = omega arith

-- no digit is left
none_left : (n k r m : ℕ) → k ≡ 0 → r ≡ 0 → n * 10 ^ k + r ≡ m → n ≡ m
none_left n zero r m e z h = omega arith
none_left n (suc k) r m e z h = absurd (omega arith)

power-most : (k : ℕ) → k ≤ 5 → 10 ^ k ≤ 100000
power-most zero h = omega arith
power-most (suc zero) h = omega arith
power-most (suc (suc zero)) h = omega arith
power-most (suc (suc (suc zero))) h = omega arith
power-most (suc (suc (suc (suc zero)))) h = omega arith
power-most (suc (suc (suc (suc (suc zero))))) h = omega arith
power-most (suc (suc (suc (suc (suc (suc k)))))) h = absurd (omega arith)

module _ (ds : List ℕ) (n i : ℕ) (s : Spelling ds n i) where
  -- of at most five digits no sum passes 64 bits
  pub spelling-small : length ds ≤ 5 → n < 100000
  spelling-small h = omega (arith, s.below, power-most i (omega (arith, s.to)))

  pub spelling-end : length ds ≤ i → n ≡ digits_value ds
  spelling-end h =
      let z : digits_value (drop i ds) ≡ 0 = rw (drop_of_length-le ds h) number-none in
      none_left n (length ds - i) (digits_value (drop i ds)) (digits_value ds) (omega arith) z s.makes

  module _ (h : i < length ds) where
    next : drop i ds ≡ get_or ds i 0 ∷ drop (suc i) ds
    next = drop-cons ds i 0 h

    split : every digit (get_or ds i 0 ∷ drop (suc i) ds) ≡ true
    split = rw (← next) s.left

    -- the next byte is a digit
    is-digit : digit (get_or ds i 0) ≡ true
    is-digit = (every_first digit _ _ split).0

    pub byte_low : 48 ≤ get_or ds i 0
    byte_low = digit_low (get_or ds i 0) is-digit

    pub byte-high : get_or ds i 0 ≤ 57
    byte-high = digit-high (get_or ds i 0) is-digit

    next-makes : (10 * n + (get_or ds i 0 - 48)) * 10 ^ (length ds - suc i) + digits_value (drop (suc i) ds) ≡ digits_value ds
    next-makes =
        let f : length ds - i ≡ suc (length ds - suc i) = omega arith in
        let g : 10 ^ (length ds - i) ≡ 10 * 10 ^ (length ds - suc i) = rw f (omega arith) in
        let k : digits_value (drop i ds) ≡ (get_or ds i 0 - 48) * 10 ^ (length ds - suc i) + digits_value (drop (suc i) ds) =
        rw (next, number-first (get_or ds i 0) (drop (suc i) ds), length-drop (suc i) ds) in
        one_more n (get_or ds i 0 - 48) (10 ^ (length ds - suc i)) _ _ _ k (rw (← g) s.makes)

    pub spelling-next : (e : ℕ) → e ≡ get_or ds i 0 - 48 → Spelling ds (10 * n + e) (i + 1)
    spelling-next e k =
        rw (k, add-one)
        (record {
          to = omega arith;
          left = (every_first digit _ _ split).1;
          below = omega (arith, s.below, byte-high);
          makes = next-makes;
        })

-- of digits and what the last of them counts
pub product_small : (n u : ℕ) → n < 100000 → u ≤ 100 → n * u < 10000000
product_small n u h k = let l : n ≤ 99999 = omega arith in omega (arith, mul-le-mul l k)
