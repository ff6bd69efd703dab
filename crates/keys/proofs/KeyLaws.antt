-- What a list of keys has after one more went in: its length, its order, and where the key stands. Assumes nothing.
use Prim.Native.Nat.{ℕ, zero, suc, ◌≤◌, ◌<◌, suc-le-suc, zero-le}
use mathlib.Core.Path.{◌≡◌, refl, ap}
use mathlib.Core.List.{List, [], ◌∷◌, ◌++◌}
use mathlib.Core.Bool.{Bool, true, false, cond}
use native.Mathlib.Omega.{arith}
use lib.ListN.{length, get_or, take, drop}
use lib.Dec.{leb}
use borrow.Author.Tests.{le-leb, lt-leb, leb-true, leb-false}
use Rattle.keys.specs.Keys.{insert_key, Rising}

-- q is one of l
abbrev pub Among : ℕ → List ℕ → Type 0
Among q l = (i : ℕ) × (i < length l) × (get_or l i 0 ≡ q)

-- what holds of both ways of a step holds of the list
step : (P : List ℕ → Type 0) (r q : ℕ) (qs : List ℕ) → (r ≤ q → P (r ∷ q ∷ qs)) → (q < r → P (q ∷ insert_key r qs)) → P (insert_key r (q ∷ qs))
unfolding insert_key
step P r q qs f g = go (leb r q) refl
  where
    go : (b : Bool) → leb r q ≡ b → P (cond b (r ∷ q ∷ qs) (q ∷ insert_key r qs))
    go true e = f (leb-true r q e)
    go false e = g (leb-false r q e)

-- ---- the length

pub length-insert : (r : ℕ) (l : List ℕ) → length (insert_key r l) ≡ suc (length l)
unfolding insert_key
length-insert r [] = refl
length-insert r (q ∷ qs) = step (λ l. length l ≡ suc (suc (length qs))) r q qs (λ h. refl) (λ h. ap suc (length-insert r qs))

-- ---- where the key stands: behind those that are below it

pub insert-at : (r : ℕ) (l : List ℕ) (i : ℕ) → i ≤ length l → ((j : ℕ) → j < i → get_or l j 0 < r) → (i < length l → r ≤ get_or l i 0)
    → insert_key r l ≡ take i l ++ r ∷ drop i l
unfolding insert_key
insert-at r [] zero h below above = refl
insert-at r [] (suc i) h below above = absurd (omega arith)
insert-at r (q ∷ qs) zero h below above = rw (le-leb r q (above (suc-le-suc zero-le)))
insert-at r (q ∷ qs) (suc i) h below above =
    rw (lt-leb r q (below 0 (suc-le-suc zero-le)))
    (ap (λ l. q ∷ l) (insert-at r qs i (omega arith) (λ j k. below (suc j) (suc-le-suc k)) (λ k. above (suc-le-suc k))))

-- ---- the members

pub insert-each : (P : ℕ → Type 0) (r : ℕ) (l : List ℕ) → P r → ((i : ℕ) → i < length l → P (get_or l i 0)) → (j : ℕ) → j < length (insert_key r l)
    → P (get_or (insert_key r l) j 0)
unfolding insert_key
insert-each P r [] p h zero k = p
insert-each P r [] p h (suc j) k = absurd (omega arith)
insert-each P r (q ∷ qs) p h j k =
    step (λ l. (j : ℕ) → j < length l → P (get_or l j 0)) r q qs (λ u. first r (q ∷ qs) p h)
    (λ u. first q (insert_key r qs) (h 0 (suc-le-suc zero-le)) (insert-each P r qs p (λ i k. h (suc i) (suc-le-suc k)))) j k
  where
    first : (x : ℕ) (l : List ℕ) → P x → ((j : ℕ) → j < length l → P (get_or l j 0)) → (j : ℕ) → j < length (x ∷ l) → P (get_or (x ∷ l) j 0)
    first x l p h zero k = p
    first x l p h (suc j) k = h j (omega arith)

-- ---- the order

-- below all of a rising list
rising-cons : (q : ℕ) (l : List ℕ) → ((j : ℕ) → j < length l → q < get_or l j 0) → Rising l → Rising (q ∷ l)
rising-cons q l low u i zero h k = absurd (omega arith)
rising-cons q l low u zero (suc j) h k = low j (omega arith)
rising-cons q l low u (suc i) (suc j) h k = u i j (omega arith) (omega arith)

pub rising-insert : (r : ℕ) (l : List ℕ) → Rising l → (Among r l → ⊥) → Rising (insert_key r l)
unfolding insert_key
rising-insert r [] u n = rising-cons r [] (λ j h. absurd (omega arith)) u
rising-insert r (q ∷ qs) u n =
    step Rising r q qs (λ h. rising-cons r (q ∷ qs) (front h) u)
    (λ h. rising-cons q (insert_key r qs) (back h) (rising-insert r qs tail (λ a. n (suc a.0, suc-le-suc a.1, a.2))))
  where
    tail : Rising qs
    tail i j h k = u (suc i) (suc j) (suc-le-suc h) (suc-le-suc k)

    front : r ≤ q → (j : ℕ) → j < length (q ∷ qs) → r < get_or (q ∷ qs) j 0
    front h zero k = let e : q ≡ r → ⊥ = λ e. n (0, suc-le-suc zero-le, e) in omega arith
    front h (suc j) k = omega (arith, u 0 (suc j) (suc-le-suc zero-le) k)

    back : q < r → (j : ℕ) → j < length (insert_key r qs) → q < get_or (insert_key r qs) j 0
    back h = insert-each (λ x. q < x) r qs h (λ i k. u 0 (suc i) (suc-le-suc zero-le) (suc-le-suc k))
