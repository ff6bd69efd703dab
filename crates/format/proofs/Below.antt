-- Laws of tests over the numbers below n, in the form that an ascending loop wants: it has shown the test of the numbers below i. Assumes nothing.
use Prim.Native.Nat.{ℕ, zero, suc, ◌+◌, ◌<◌}
use mathlib.Core.Path.{◌≡◌, refl, sym, ◌∙◌}
use mathlib.Core.List.{List, [], ◌∷◌}
use mathlib.Core.Bool.{Bool, true, false, ◌&&◌, ◌||◌, or-true, and-false, true≢false}
use mathlib.Core.Logic.{⊎_elim}
use native.Mathlib.Nat.{eq-or-lt_of_le, le_of_suc-le-suc}
use native.Mathlib.Omega.{arith}
use native.Mathlib.Numerals.{add-one}
use lib.ListN.{get_or}
use Rattle.format.specs.Bytes.{any_of, any_below, all_below, least_below}

-- ---- bools

pub by_bool {ℓ} : {P : Type ℓ} (b : Bool) → (b ≡ true → P) → (b ≡ false → P) → P
by_bool true f g = f refl
by_bool false f g = g refl

pub or-none : (a b : Bool) → (a || b) ≡ false → (a ≡ false) × (b ≡ false)
or-none true b e = absurd (true≢false e)
or-none false b e = (refl, e)

pub and_both : (a b : Bool) → (a && b) ≡ true → (a ≡ true) × (b ≡ true)
and_both true b e = (refl, e)
and_both false b e = absurd (true≢false (sym e))

-- none of the tests holds: not the one at i
pub none : (ts : List Bool) → any_of ts ≡ false → (i : ℕ) → get_or ts i false ≡ false
unfolding any_of
none [] e i = refl
none (t ∷ ts) e zero = (or-none t (any_of ts) e).0
none (t ∷ ts) e (suc i) = none ts (or-none t (any_of ts) e).1 i

-- ---- a number below n + 1 is n, or below n

pub last_or {ℓ} : (P : ℕ → Type ℓ) {n i : ℕ} → i < suc n → P n → (i < n → P i) → P i
last_or P h p q = ⊎_elim (λ e. rw e p) q (eq-or-lt_of_le (le_of_suc-le-suc h))

-- ---- some number below n

pub any-zero : (t : ℕ → Bool) → any_below 0 t ≡ false
unfolding any_below
any-zero t = refl

pub any-more : (i : ℕ) (t : ℕ → Bool) → any_below i t ≡ false → t i ≡ false → any_below (i + 1) t ≡ false
unfolding any_below
any-more i t e f = rw (add-one, e, f)

pub any_found : (n i : ℕ) (t : ℕ → Bool) → i < n → t i ≡ true → any_below n t ≡ true
unfolding any_below
any_found zero i t h e = absurd (omega arith)
any_found (suc n) i t h e =
    last_or (λ i. t i ≡ true → any_below (suc n) t ≡ true) h (λ f. rw f (or-true (any_below n t))) (λ l f. rw (any_found n i t l f)) e

pub any_none : (n i : ℕ) (t : ℕ → Bool) → any_below n t ≡ false → i < n → t i ≡ false
any_none n i t e h = by_bool (t i) (λ f. absurd (true≢false (sym (any_found n i t h f) ∙ e))) (λ f. f)

pub any-intro : (n : ℕ) (t : ℕ → Bool) → ((i : ℕ) → i < n → t i ≡ false) → any_below n t ≡ false
unfolding any_below
any-intro zero t h = refl
any-intro (suc n) t h = rw (any-intro n t (λ i l. h i (omega arith)), h n (omega arith))

-- ---- every number below n

pub all-zero : (t : ℕ → Bool) → all_below 0 t ≡ true
unfolding all_below
all-zero t = refl

pub all_more : (i : ℕ) (t : ℕ → Bool) → all_below i t ≡ true → t i ≡ true → all_below (i + 1) t ≡ true
unfolding all_below
all_more i t e f = rw (add-one, e, f)

pub all-fails : (n i : ℕ) (t : ℕ → Bool) → i < n → t i ≡ false → all_below n t ≡ false
unfolding all_below
all-fails zero i t h e = absurd (omega arith)
all-fails (suc n) i t h e =
    last_or (λ i. t i ≡ false → all_below (suc n) t ≡ false) h (λ f. rw f (and-false (all_below n t))) (λ l f. rw (all-fails n i t l f)) e

pub all-at : (n i : ℕ) (t : ℕ → Bool) → all_below n t ≡ true → i < n → t i ≡ true
all-at n i t e h = by_bool (t i) (λ f. f) (λ f. absurd (true≢false (sym e ∙ all-fails n i t h f)))

pub all-intro : (n : ℕ) (t : ℕ → Bool) → ((i : ℕ) → i < n → t i ≡ true) → all_below n t ≡ true
unfolding all_below
all-intro zero t h = refl
all-intro (suc n) t h = rw (all-intro n t (λ i l. h i (omega arith)), h n (omega arith))

-- ---- the least number below n

pub least-found : (n i : ℕ) (t : ℕ → Bool) → i < n → any_below i t ≡ false → t i ≡ true → least_below n t ≡ i
unfolding least_below
least-found zero i t h e f = absurd (omega arith)
least-found (suc n) i t h e f =
    last_or (λ i. any_below i t ≡ false → t i ≡ true → least_below (suc n) t ≡ i) h (λ a b. rw (a, b))
    (λ l a b. rw (any_found n i t l b) (least-found n i t l a b)) e f

pub least-none : (n : ℕ) (t : ℕ → Bool) → any_below n t ≡ false → least_below n t ≡ n
unfolding least_below
least-none zero t e = refl
least-none (suc n) t e =
    let a : any_below n t ≡ false = any-intro n t (λ i l. any_none (suc n) i t e (omega arith)) in
    let b : t n ≡ false = any_none (suc n) n t e (omega arith) in
    rw (a, b)

-- what holds of some number below n holds of the least
pub record Least (n : ℕ) (t : ℕ → Bool) : Type 0 where
  pub below : least_below n t < n
  pub holds : t (least_below n t) ≡ true

pub least-is : (n : ℕ) (t : ℕ → Bool) → any_below n t ≡ true → Least n t
unfolding any_below least_below
least-is zero t e = absurd (true≢false (sym e))
least-is (suc n) t e =
    by_bool (any_below n t) (λ a. let l = least-is n t a in record { below = rw a (omega (arith, l.below)); holds = rw a l.holds })
    (λ a. by_bool (t n) (λ b. record { below = rw (a, b) (omega arith); holds = rw (a, b) b }) (λ b. absurd (true≢false (sym e ∙ rw (a, b)))))

-- ---- tests that agree below n

pub any-alike : (n : ℕ) (t u : ℕ → Bool) → ((i : ℕ) → i < n → t i ≡ u i) → any_below n t ≡ any_below n u
unfolding any_below
any-alike zero t u h = refl
any-alike (suc n) t u h = rw (any-alike n t u (λ i l. h i (omega arith)), h n (omega arith))

pub all_alike : (n : ℕ) (t u : ℕ → Bool) → ((i : ℕ) → i < n → t i ≡ u i) → all_below n t ≡ all_below n u
unfolding all_below
all_alike zero t u h = refl
all_alike (suc n) t u h = rw (all_alike n t u (λ i l. h i (omega arith)), h n (omega arith))

pub least-alike : (n : ℕ) (t u : ℕ → Bool) → ((i : ℕ) → i < n → t i ≡ u i) → least_below n t ≡ least_below n u
unfolding least_below
least-alike zero t u h = refl
least-alike (suc n) t u h =
    let f : (i : ℕ) → i < n → t i ≡ u i = λ i l. h i (omega arith) in
    rw (any-alike n t u f, least-alike n t u f, h n (omega arith))
