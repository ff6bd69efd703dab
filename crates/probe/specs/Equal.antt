-- Whether two byte strings are equal.
use Rattle.std.specs.Prelude.{ℕ, ◌≡◌, List, Bool, true}

-- r says whether the two lists are one
pub record Tells (xs ys : List ℕ) (r : Bool) : Type 0 where
  pub only : r ≡ true → xs ≡ ys
  pub always : xs ≡ ys → r ≡ true
