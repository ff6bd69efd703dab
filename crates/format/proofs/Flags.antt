-- Rules for `search`: at a `return`, the answer of a chain of tests from the tests that the code took. Assumes nothing.
-- A chain is `cond test answer rest` or `any_of (test ∷ tests)`. What the code knows of a test is of the results of calls, of which their
-- contracts say `result ≡ term`: so each rule about a test has the result r of a term beside it.
use Prim.Native.Nat.{ℕ, ◌≤◌, ◌<◌}
use mathlib.Core.Path.{◌≡◌, refl, sym, ◌∙◌}
use mathlib.Core.List.{List, [], ◌∷◌}
use mathlib.Core.Bool.{Bool, true, false, cond, not, ◌||◌, or-true, or-false}
use lib.Dec.{eqb, leb, ltb}
use borrow.Author.Tests.{lt-ltb, le-ltb, le-leb, lt-leb, eq-eqb, ne_eqb, not-true, not-false}
use Rattle.format.specs.Bytes.{any_of}

-- ---- the chain

pub cond-true : {A : Type 0} (t : Bool) (x y z : A) → t ≡ true → z ≡ x → z ≡ cond t x y
cond-true t x y z e q = rw e q

pub cond-false : {A : Type 0} (t : Bool) (x y z : A) → t ≡ false → z ≡ y → z ≡ cond t x y
cond-false t x y z e q = rw e q

pub any_here : (t : Bool) (ts : List Bool) → t ≡ true → true ≡ any_of (t ∷ ts)
unfolding any_of
any_here t ts e = rw e

pub any-later : (t : Bool) (ts : List Bool) → true ≡ any_of ts → true ≡ any_of (t ∷ ts)
unfolding any_of
any-later t ts e = rw (← e, or-true t)

pub any-skip : (z t : Bool) (ts : List Bool) → t ≡ false → z ≡ any_of ts → z ≡ any_of (t ∷ ts)
unfolding any_of
any-skip z t ts e q = rw e q

pub any_last : (z t : Bool) → z ≡ t → z ≡ any_of (t ∷ [])
unfolding any_of
any_last z t e = rw (or-false t) e

pub any_none : false ≡ any_of []
unfolding any_of
any_none = refl

pub or-here : (t u : Bool) → t ≡ true → true ≡ (t || u)
or-here t u e = rw e

pub or-next : (z t u : Bool) → t ≡ false → z ≡ u → z ≡ (t || u)
or-next z t u e q = rw e q

-- the last answer is a test itself
pub true-is : (t : Bool) → t ≡ true → true ≡ t
true-is t e = sym e

pub false-is : (t : Bool) → t ≡ false → false ≡ t
false-is t e = sym e

-- ---- one test

pub is_true : (r t : Bool) → r ≡ t → r ≡ true → t ≡ true
is_true r t e h = sym e ∙ h

pub is_false : (r t : Bool) → r ≡ t → r ≡ false → t ≡ false
is_false r t e h = sym e ∙ h

pub not-is-true : (t : Bool) → t ≡ false → not t ≡ true
not-is-true t e = rw e

pub not-is-false : (t : Bool) → t ≡ true → not t ≡ false
not-is-false t e = rw e

pub is-true-not : (r t : Bool) → r ≡ t → not r ≡ false → t ≡ true
is-true-not r t e h = sym e ∙ not-false r h

pub is-false-not : (r t : Bool) → r ≡ t → not r ≡ true → t ≡ false
is-false-not r t e h = sym e ∙ not-true r h

pub or-is-left : (t u : Bool) → t ≡ true → (t || u) ≡ true
or-is-left t u e = rw e

pub or-is-right : (t u : Bool) → u ≡ true → (t || u) ≡ true
or-is-right t u e = rw e (or-true t)

pub or-is-false : (t u : Bool) → t ≡ false → u ≡ false → (t || u) ≡ false
or-is-false t u e f = rw (e, f)

module _ (r a b : ℕ) (e : r ≡ a) where
  pub lt_yes : r < b → ltb a b ≡ true
  lt_yes h = rw (← e) (lt-ltb r b h)

  pub lt_no : b ≤ r → ltb a b ≡ false
  lt_no h = rw (← e) (le-ltb r b h)

  pub le_yes : r ≤ b → leb a b ≡ true
  le_yes h = rw (← e) (le-leb r b h)

  pub le-no : b < r → leb a b ≡ false
  le-no h = rw (← e) (lt-leb r b h)

  pub eq_yes : r ≡ b → eqb a b ≡ true
  eq_yes h = rw (← e) (eq-eqb r b h)

  pub eq_no : (r ≡ b → ⊥) → eqb a b ≡ false
  eq_no h = rw (← e) (ne_eqb r b h)

module _ (r a b : ℕ) (e : r ≡ b) where
  pub lt-yes' : a < r → ltb a b ≡ true
  lt-yes' h = rw (← e) (lt-ltb a r h)

  pub lt-no' : r ≤ a → ltb a b ≡ false
  lt-no' h = rw (← e) (le-ltb a r h)

  pub le-yes' : a ≤ r → leb a b ≡ true
  le-yes' h = rw (← e) (le-leb a r h)

  pub le-no' : r < a → leb a b ≡ false
  le-no' h = rw (← e) (lt-leb a r h)

pub ruleset chains = (cond-true, cond-false, any_here, any-skip, any_last, any_none, any-later, or-here, or-next, true-is, false-is)

pub ruleset bools = (is_true, is_false, is-true-not, is-false-not, or-is-left, or-is-right, or-is-false, not-is-true, not-is-false)

pub ruleset numbers = (lt_yes, lt_no, le_yes, le-no, eq_yes, eq_no, lt-yes', lt-no', le-yes', le-no', lt-ltb, le-ltb, le-leb, lt-leb, eq-eqb, ne_eqb)

pub ruleset flags = (chains, bools, numbers, refl)
