-- Bytes whose first k are given anew, and bytes whose first k are equal.
use Rattle.std.specs.Prelude.{◌≡◌, ℕ, ◌<◌, List, cond, ltb, length, get_or}
use Rattle.plane.specs.Sums.{tab}

-- the first k elements are f 0, .., f (k - 1), the others stay
unfoldable pub front : (ℕ → ℕ) → ℕ → List ℕ → List ℕ
front f k l = tab (length l) (λ i. cond (ltb i k) (f i) (get_or l i 0))

-- the first k elements are all the first
abbrev pub Alike : List ℕ → ℕ → Type 0
Alike l k = (i : ℕ) → i < k → get_or l i 0 ≡ get_or l 0 0
