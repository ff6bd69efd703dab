-- Numbers and byte strings in a list of bytes. Every read is total: a byte past the end counts as 0.
-- All numbers are little-endian. A signed field (Int, Long) is kept as the unsigned number of its bits.
use Rattle.std.specs.Prelude.{ℕ, zero, suc, ◌+◌, ◌-◌, ◌*◌, ◌%◌, ◌^◌, List, [], ◌∷◌, Bool, true, false, cond, ◌&&◌, ◌||◌, length, get_or, take, drop, eqb, leb, ltb, ℤ, pos, negsuc, ◌-ℤ◌}

-- ---- tests over a range of numbers

-- one of the tests holds
unfoldable pub any_of : List Bool → Bool
any_of [] = false
any_of (t ∷ ts) = t || any_of ts

-- the test holds of some number below n
unfoldable pub any_below : ℕ → (ℕ → Bool) → Bool
any_below zero t = false
any_below (suc n) t = any_below n t || t n

-- the test holds of every number below n
unfoldable pub all_below : ℕ → (ℕ → Bool) → Bool
all_below zero t = true
all_below (suc n) t = all_below n t && t n

-- the least number below n of which the test holds; n where there is none
unfoldable pub least_below : ℕ → (ℕ → Bool) → ℕ
least_below zero t = 0
least_below (suc n) t = cond (any_below n t) (least_below n t) (cond (t n) n (suc n))

-- ---- numbers

-- the 32 bits from p on: an Int
unfoldable pub u32_at : List ℕ → ℕ → ℕ
u32_at bs p = get_or bs p 0 + 256 * get_or bs (p + 1) 0 + 65536 * get_or bs (p + 2) 0 + 16777216 * get_or bs (p + 3) 0

-- the 64 bits from p on: a Long
unfoldable pub u64_at : List ℕ → ℕ → ℕ
u64_at bs p = u32_at bs p + 4294967296 * u32_at bs (p + 4)

-- an Int, a Long, is negative
abbrev pub negative32 : ℕ → Bool
negative32 x = leb (2 ^ 31) x

abbrev pub negative64 : ℕ → Bool
negative64 x = leb (2 ^ 63) x

-- an Int's value
unfoldable pub signed32 : ℕ → ℤ
signed32 x = cond (ltb x (2 ^ 31)) (pos x) (pos x -ℤ pos (2 ^ 32))

-- an Int's value plus 2 ^ 31, so that plane coordinates are compared and subtracted as numbers that are not negative
unfoldable pub biased : ℕ → ℕ
biased x = (x + 2 ^ 31) % 2 ^ 32

-- the same of a signed number that is given as one
abbrev pub shifted : ℤ → ℕ
shifted (pos n) = n + 2 ^ 31
shifted (negsuc n) = 2 ^ 31 - suc n

-- ---- byte strings

-- the bytes of xs stand at p
unfoldable pub same_at : List ℕ → ℕ → List ℕ → Bool
same_at bs p xs = all_below (length xs) (λ i. eqb (get_or bs (p + i) 0) (get_or xs i 0))

-- the n bytes at a of ds are those at b of bs
unfoldable pub same_range : ℕ → List ℕ → ℕ → List ℕ → ℕ → Bool
same_range n ds a bs b = all_below n (λ i. eqb (get_or ds (a + i) 0) (get_or bs (b + i) 0))

-- the n bytes from p on
unfoldable pub part_of : List ℕ → ℕ → ℕ → List ℕ
part_of bs p n = take n (drop p bs)
