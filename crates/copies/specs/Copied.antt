-- What a copy does to the bytes it is made to.
use Rattle.std.specs.Prelude.{ℕ, ◌+◌, ◌-◌, List, cond, ◌&&◌, leb, ltb, length, get_or}
use Rattle.plane.specs.Sums.{tab}

-- the bytes from number a up to number e replaced by the source's at the same numbers
unfoldable pub copied : List ℕ → List ℕ → ℕ → ℕ → List ℕ
copied dst src a e = tab (length dst) (λ k. cond (leb a k && ltb k e) (get_or src k 0) (get_or dst k 0))

-- the n bytes from number p on replaced by the source's from number q on
unfoldable pub moved : List ℕ → List ℕ → ℕ → ℕ → ℕ → List ℕ
moved dst src p q n = tab (length dst) (λ k. cond (leb p k && ltb k (p + n)) (get_or src (q + (k - p)) 0) (get_or dst k 0))

-- the bytes of a block, through which bytes are moved at most at once
abbrev pub block_size : ℕ
block_size = 12288
