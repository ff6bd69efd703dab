-- Keys in rising order, and one key more among them.
use Rattle.std.specs.Prelude.{ℕ, ◌+◌, ◌<◌, ◌≡◌, List, [], ◌∷◌, cond, length, get_or, take, drop, leb}

-- r goes before the first key that is not below it
unfoldable pub insert_key : ℕ → List ℕ → List ℕ
insert_key r [] = r ∷ []
insert_key r (q ∷ qs) = cond (leb r q) (r ∷ q ∷ qs) (q ∷ insert_key r qs)

-- each key is less than every later one
abbrev pub Rising : List ℕ → Type 0
Rising l = (i j : ℕ) → i < j → j < length l → get_or l i 0 < get_or l j 0

-- the table after the key r went in among its first n
pub record Inserted (n r : ℕ) (before after : List ℕ) : Type 0 where
  pub keys_are : take (n + 1) after ≡ insert_key r (take n before)
  pub rest-is : drop (n + 1) after ≡ drop (n + 1) before
  pub size_is : length after ≡ length before
