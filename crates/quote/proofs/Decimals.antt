-- Numbers in plain decimal: digits alone, that come to the number, and no more of them than it takes. Assumes nothing.
use Prim.Native.Nat.{ℕ, zero, suc, ◌+◌, ◌-◌, ◌*◌, ◌/◌, ◌%◌, ◌^◌, ◌≤◌, ◌<◌}
use mathlib.Core.Path.{◌≡◌, refl, ◌∙◌}
use mathlib.Core.List.{List, [], ◌∷◌, ◌++◌}
use mathlib.Core.Bool.{Bool, true}
use native.Mathlib.Omega.{arith}
use lib.ListN.{length, length-append}
use lib.Dec.{ltb}
use borrow.Author.Tests.{ltb-true}
use Rattle.format.specs.Markup.{every}
use Rattle.format.proofs.Below.{by_bool, and_both}
use Rattle.text.specs.Text.{digits, decimal}
use Rattle.text.proofs.Digits.{decimal-short}
use Rattle.settings.specs.Settings.{digit, digits_value}
use Rattle.settings.proofs.Spellable.{digit-is}
use Rattle.quote.specs.Claims.{PlainDecimal}

-- ---- digits alone

every-end : (of : ℕ → Bool) (xs : List ℕ) (d : ℕ) → every of xs ≡ true → of d ≡ true → every of (xs ++ (d ∷ [])) ≡ true
unfolding every
every-end of [] d h k = rw k
every-end of (x ∷ xs) d h k = let both = and_both (of x) (every of xs) h in rw both.0 (every-end of xs d both.1 k)

digits-alone : (n x : ℕ) → every digit (digits n x) ≡ true
unfolding digits every
digits-alone zero x = refl
digits-alone (suc n) x =
    by_bool (ltb x 10)
    (λ e. rw (e, digit-is x (ltb-true x 10 e)))
    (λ e. rw e (every-end digit (digits n (x / 10)) (48 + x % 10) (digits-alone n (x / 10)) (digit-is (x % 10) (omega arith))))

-- ---- the number that they spell

-- one digit more behind: a counts p, which counts ten times as much then
ten-fold : (a p r d : ℕ) → a * (10 * p) + (10 * r + d) ≡ 10 * (a * p + r) + d
ten-fold a p r d = omega arith

number-end : (xs : List ℕ) (d : ℕ) → digits_value (xs ++ (d ∷ [])) ≡ 10 * digits_value xs + (d - 48)
unfolding digits_value
number-end [] d = omega arith
number-end (x ∷ xs) d =
    let long : length (xs ++ (d ∷ [])) ≡ suc (length xs) = simp length-append (omega arith) in
    let power : 10 ^ length (xs ++ (d ∷ [])) ≡ 10 * 10 ^ length xs = rw long (omega arith) in
    rw (power, number-end xs d) (ten-fold (x - 48) (10 ^ length xs) (digits_value xs) (d - 48))

number_is : (n x : ℕ) → x < 10 ^ n → digits_value (digits n x) ≡ x
unfolding digits digits_value
number_is zero x h = omega arith
number_is (suc n) x h =
    by_bool (ltb x 10)
    (λ e. rw e (omega arith))
    (λ e.
    let front : digits_value (digits n (x / 10)) ≡ x / 10 = number_is n (x / 10) (omega arith) in
    let all : 10 * digits_value (digits n (x / 10)) + (48 + x % 10 - 48) ≡ x = rw front (omega arith) in
    rw e (number-end (digits n (x / 10)) (48 + x % 10) ∙ all))

-- at least one
some-digit : (n x : ℕ) → 1 ≤ length (digits (suc n) x)
unfolding digits
some-digit n x = by_bool (ltb x 10) (λ e. rw e (omega arith)) (λ e. rw e (simp length-append (omega arith)))

-- ---- all of it

pub plain-decimal : PlainDecimal
unfolding decimal
plain-decimal n h = (digits-alone 20 n, number_is 20 n h, some-digit 19 n, λ k p less. decimal-short k n (omega arith) less)
