-- Rows of numbers in a lent array, which held `before` and holds `after`: what is put where, and that all else stays.
use Rattle.std.specs.Prelude.{ℕ, ◌+◌, ◌*◌, ◌≤◌, ◌<◌, ◌≡◌, List, length, get_or}

-- the first n of the row's numbers from number `at` on. `none` stands where a list has no number
pub record Stretch {A : Type 0} (none : A) (at n : ℕ) (row before after : List A) : Type 0 where
  pub size_is : length after ≡ length before
  pub there : (i : ℕ) → i < n → get_or after (at + i) none ≡ get_or row i none
  pub below : (x : ℕ) → x < at → get_or after x none ≡ get_or before x none
  pub past : (x : ℕ) → at + n ≤ x → get_or after x none ≡ get_or before x none

-- m rows of w numbers: row 0, row 1, .. where the array's rows r, r + 1, .. were
pub record Rows {A : Type 0} (none : A) (w r m : ℕ) (row : ℕ → List A) (before after : List A) : Type 0 where
  pub size_is : length after ≡ length before
  pub row_is : (k i : ℕ) → k < m → i < w → get_or after (w * (r + k) + i) none ≡ get_or (row k) i none
  pub below : (x : ℕ) → x < w * r → get_or after x none ≡ get_or before x none
  pub past : (x : ℕ) → w * (r + m) ≤ x → get_or after x none ≡ get_or before x none
