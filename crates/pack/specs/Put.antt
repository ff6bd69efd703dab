-- Bytes put into a lent buffer.
use Rattle.std.specs.Prelude.{ℕ, ◌+◌, List, ◌++◌, length, take, drop}

-- the buffer u with the bytes xs from number p on; all else stays
unfoldable pub put : List ℕ → ℕ → List ℕ → List ℕ
put u p xs = take p u ++ (xs ++ drop (p + length xs) u)
