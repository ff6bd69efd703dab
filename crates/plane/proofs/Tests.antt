-- Tests: by their two values, and a bound one greater.
use mathlib.Core.Path.{◌≡◌, refl, sym, ◌∙◌}
use Prim.Native.Nat.{ℕ, suc, ◌+◌, ◌≤◌, ◌<◌}
use native.Mathlib.Omega.{arith}
use mathlib.Core.Bool.{Bool, true, false, cond}
use lib.Dec.{leb, ltb}
use borrow.Author.Tests.{le-leb, leb-true, leb-false, ltb-true, ltb-false}

-- a fact of each of the two values of a test, and from each of two orders
pub cond-case {ℓ} : {A : Type 0} (P : A → Type ℓ) (c : Bool) {x y : A} → (c ≡ true → P x) → (c ≡ false → P y) → P (cond c x y)
cond-case P true f g = f refl
cond-case P false f g = g refl

pub by_bool {ℓ} : {P : Type ℓ} (c : Bool) → (c ≡ true → P) → (c ≡ false → P) → P
by_bool true f g = f refl
by_bool false f g = g refl

pub by-lt {ℓ} : {P : Type ℓ} (k n : ℕ) → (k < n → P) → (n ≤ k → P) → P
by-lt k n f g = by_bool (ltb k n) (λ e. f (ltb-true k n e)) (λ e. g (ltb-false k n e))

-- two tests of which each tells the other; of `ltb a b`, which is `leb (suc a) b`, too
pub leb-same : (a b c d : ℕ) → (a ≤ b → c ≤ d) → (c ≤ d → a ≤ b) → leb a b ≡ leb c d
leb-same a b c d f g =
    by_bool (leb a b) (λ e. e ∙ sym (le-leb c d (f (leb-true a b e))))
    (λ e. by_bool (leb c d) (λ q. absurd (omega (arith, leb-false a b e, g (leb-true c d q)))) (λ q. e ∙ sym q))

-- below j, and below j + 1, are the same but for j
pub ltb_next : (k j : ℕ) → (k ≡ j → ⊥) → ltb k j ≡ ltb k (j + 1)
ltb_next k j n = leb-same (suc k) j (suc k) (j + 1) (λ h. omega arith) (λ h. omega arith)
