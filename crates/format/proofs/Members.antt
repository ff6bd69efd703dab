-- Membership in a list of places: the test `member` and the statement `Among`. Assumes nothing.
use Prim.Native.Nat.{ℕ, zero, suc, ◌<◌, suc-le-suc, zero-le}
use mathlib.Core.Path.{◌≡◌, subst}
use mathlib.Core.List.{List, [], ◌∷◌}
use mathlib.Core.Bool.{true, or-true, false≢true}
use native.Mathlib.Omega.{arith}
use lib.ListN.{length, get_or}
use lib.Dec.{eqb}
use borrow.Author.Tests.{eq-eqb, eqb-true}
use Rattle.format.specs.Segments.{member}
use Rattle.format.specs.WellFormed.{Among, Each}
use Rattle.format.proofs.Below.{by_bool}

-- the element at i is a member
pub member-at : (l : List ℕ) (q i : ℕ) → i < length l → get_or l i 0 ≡ q → member q l ≡ true
unfolding member
member-at [] q i h e = absurd (omega arith)
member-at (x ∷ xs) q zero h e = rw (eq-eqb x q e)
member-at (x ∷ xs) q (suc i) h e = rw (member-at xs q i (omega arith) e) (or-true (eqb x q))

pub among-member : (q : ℕ) (l : List ℕ) → Among q l → member q l ≡ true
among-member q l a = member-at l q a.0 a.1 a.2

pub member-among : (q : ℕ) (l : List ℕ) → member q l ≡ true → Among q l
unfolding member
member-among q [] e = absurd (false≢true e)
member-among q (x ∷ xs) e =
    by_bool (eqb x q) (λ f. (0, suc-le-suc zero-le, eqb-true x q f))
    (λ f. let a = member-among q xs (rw f at e) in (suc a.0, suc-le-suc a.1, a.2))

-- what holds of every element holds of a member
pub member-all : (P : ℕ → Type 0) (l : List ℕ) (q : ℕ) → Each P l → member q l ≡ true → P q
member-all P l q h e = let a = member-among q l e in subst P a.2 (h a.0 a.1)

-- what holds of the first and of the others
pub each_more : (P : ℕ → Type 0) (q : ℕ) (l : List ℕ) → P q → Each P l → Each P (q ∷ l)
each_more P q l p h zero k = p
each_more P q l p h (suc i) k = h i (omega arith)
