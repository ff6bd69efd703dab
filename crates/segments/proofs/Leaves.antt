-- Rules for `search` at the leaves' returns: a test that is none of a chain, a remainder of a call's result, a comparison of two results. Assumes nothing.
use Prim.Native.Nat.{ℕ, ◌%◌, ◌≤◌, ◌<◌}
use mathlib.Core.Path.{◌≡◌, refl}
use mathlib.Core.List.{List, [], ◌∷◌}
use mathlib.Core.Bool.{Bool, true, false, not}
use lib.Dec.{eqb, ltb}
use borrow.Author.Tests.{lt-ltb, le-ltb, eq-eqb, ne_eqb}
use Rattle.format.specs.Bytes.{any_of}

pub listed_here : (r t : Bool) (ts : List Bool) → r ≡ t → r ≡ true → false ≡ not (any_of (t ∷ ts))
unfolding any_of
listed_here r t ts e h = rw (← e, h)

pub listed-later : (r t z : Bool) (ts : List Bool) → r ≡ t → r ≡ false → z ≡ not (any_of ts) → z ≡ not (any_of (t ∷ ts))
unfolding any_of
listed-later r t z ts e h q = rw (← e, h) q

pub unlisted : true ≡ not (any_of [])
unfolding any_of
unlisted = refl

pub ruleset listed = (listed_here, listed-later, unlisted)

module _ (r a : ℕ) (e : r ≡ a) where
  pub whole-yes : r % 32 ≡ 0 → eqb (a % 32) 0 ≡ true
  whole-yes h = rw (← e) (eq-eqb (r % 32) 0 h)

  pub whole-no : (r % 32 ≡ 0 → ⊥) → eqb (a % 32) 0 ≡ false
  whole-no h = rw (← e) (ne_eqb (r % 32) 0 h)

module _ (r a q b : ℕ) (e : r ≡ a) (f : q ≡ b) where
  pub lt_both : r < q → ltb a b ≡ true
  lt_both h = rw (← e, ← f) (lt-ltb r q h)

  pub le-both : q ≤ r → ltb a b ≡ false
  le-both h = rw (← e, ← f) (le-ltb r q h)
