-- Laws of `sum` and `tab`.
use mathlib.Core.Path.{◌≡◌, refl, sym, ap, ◌∙◌}
use Prim.Native.Nat.{ℕ, zero, suc, ◌+◌, ◌*◌, ◌≤◌, ◌<◌, suc-le-suc}
use native.Mathlib.Nat.{le_of_suc-le-suc, not-suc-le-zero, zero-lt-suc, add-zero, add-suc, zero-mul, suc-mul, lt-suc_self, le_step, suc-ne-zero, suc_inj}
use native.Mathlib.Omega.{arith}
use mathlib.Core.List.{List, [], ◌∷◌}
use mathlib.Core.Bool.{Bool, true, false}
use lib.ListN.{length, get_or, set}
use Rattle.plane.specs.Sums.{one, sum, count, tab}

pub one-le : (b : Bool) → one b ≤ 1
one-le true = omega arith
one-le false = omega arith

-- ---- sums

pub sum-ext : (n : ℕ) (f g : ℕ → ℕ) → ((i : ℕ) → i < n → f i ≡ g i) → sum n f ≡ sum n g
unfolding sum
sum-ext zero f g e = refl
sum-ext (suc n) f g e = rw (sum-ext n f g (λ i h. e i (le_step h)), e n (lt-suc_self n))

pub sum-plus : (n : ℕ) (f g : ℕ → ℕ) → sum n (λ i. f i + g i) ≡ sum n f + sum n g
unfolding sum
sum-plus zero f g = refl
sum-plus (suc n) f g = omega (arith, sum-plus n f g)

pub sum-zero : (n : ℕ) → sum n (λ i. 0) ≡ 0
unfolding sum
sum-zero zero = refl
sum-zero (suc n) = omega (arith, sum-zero n)

pub count-all : (n : ℕ) (f : ℕ → Bool) → ((i : ℕ) → i < n → f i ≡ true) → count n f ≡ n
unfolding sum
count-all zero f e = refl
count-all (suc n) f e = omega (arith, count-all n f (λ i h. e i (le_step h)), ap one (e n (lt-suc_self n)))

pub count_none : (n : ℕ) (f : ℕ → Bool) → ((i : ℕ) → i < n → f i ≡ false) → count n f ≡ 0
count_none n f e = sum-ext n _ (λ i. 0) (λ i h. ap one (e i h)) ∙ sum-zero n

pub sum-add : (n m : ℕ) (f : ℕ → ℕ) → sum (n + m) f ≡ sum n f + sum m (λ i. f (n + i))
unfolding sum
sum-add n zero f = ap (λ (k : ℕ). sum k f) (add-zero n) ∙ sym (add-zero (sum n f))
sum-add n (suc m) f = ap (λ (k : ℕ). sum k f) (add-suc n m) ∙ omega (arith, sum-add n m f)

pub count-le : (n : ℕ) (f : ℕ → Bool) → count n f ≤ n
unfolding sum
count-le zero f = omega arith
count-le (suc n) f = omega (arith, count-le n f, one-le (f n))

-- by rows of w
pub sum_rows : (h w : ℕ) (f : ℕ → ℕ) → sum (h * w) f ≡ sum h (λ y. sum w (λ x. f (y * w + x)))
unfolding sum
sum_rows zero w f = rw (zero-mul w)
sum_rows (suc h) w f = rw (suc-mul h w, sum-add (h * w) w f, sum_rows h w f)

-- ---- lists by index

pub length-tab : (n : ℕ) (f : ℕ → ℕ) → length (tab n f) ≡ n
unfolding tab
length-tab zero f = refl
length-tab (suc n) f = ap suc (length-tab n (λ k. f (suc k)))

pub getD-tab : (n : ℕ) (f : ℕ → ℕ) (k : ℕ) → k < n → get_or (tab n f) k 0 ≡ f k
unfolding tab
getD-tab zero f k h = absurd (not-suc-le-zero h)
getD-tab (suc n) f zero h = refl
getD-tab (suc n) f (suc k) h = getD-tab n (λ i. f (suc i)) k (le_of_suc-le-suc h)

pub tab-ext : (n : ℕ) (f g : ℕ → ℕ) → ((k : ℕ) → k < n → f k ≡ g k) → tab n f ≡ tab n g
unfolding tab
tab-ext zero f g e = refl
tab-ext (suc n) f g e = rw (e 0 (zero-lt-suc n), tab-ext n (λ k. f (suc k)) (λ k. g (suc k)) (λ k h. e (suc k) (suc-le-suc h)))

-- a list is what its elements make
pub tab-getD : (l : List ℕ) → l ≡ tab (length l) (λ k. get_or l k 0)
unfolding tab
tab-getD [] = refl
tab-getD (x ∷ l) = ap (λ (r : List ℕ). x ∷ r) (tab-getD l)

-- a store
pub tab-set : (n : ℕ) (f g : ℕ → ℕ) (j v : ℕ) → j < n → v ≡ g j → ((k : ℕ) → k < n → (k ≡ j → ⊥) → f k ≡ g k) → set (tab n f) j v ≡ tab n g
unfolding tab
tab-set zero f g j v h e r = absurd (not-suc-le-zero h)
tab-set (suc n) f g zero v h e r =
    rw (e, tab-ext n (λ k. f (suc k)) (λ k. g (suc k)) (λ k l. r (suc k) (suc-le-suc l) (λ q. suc-ne-zero k q)))
tab-set (suc n) f g (suc j) v h e r =
    let rest = tab-set n (λ k. f (suc k)) (λ k. g (suc k)) j v (le_of_suc-le-suc h) e (λ k l q. r (suc k) (suc-le-suc l) (λ z. q (suc_inj z))) in
    rw (r 0 (zero-lt-suc n) (λ q. suc-ne-zero j (sym q)), rest)
