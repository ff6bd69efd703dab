-- The target and the coverage map, n pixels each: what it is to paint some pixels and to set their bits, and the covered count.
use Rattle.std.specs.Prelude.{ℕ, ◌+◌, ◌*◌, ◌-◌, ◌/◌, ◌%◌, ◌^◌, List, Bool, cond, ◌&&◌, ◌||◌, ltb, eqb, length, get_or}
use Rattle.plane.specs.Sums.{one, count, tab}

-- ---- the target: n pixels of b bytes, row by row, unpadded

-- the target with each pixel p below n at which `on` holds replaced by the bytes `px p 0`, `px p 1`, ..; all other bytes stay, those past the n pixels too
unfoldable pub paint : ℕ → ℕ → (ℕ → Bool) → (ℕ → ℕ → ℕ) → List ℕ → List ℕ
paint n b on px t = tab (length t) (λ k. cond (ltb k (n * b) && on (k / b)) (px (k / b) (k % b)) (get_or t k 0))

-- ---- the coverage map: one bit a pixel, in the same order, high bit first

-- bit i of a byte, counted from the high one
unfoldable pub bit_in : ℕ → ℕ → Bool
bit_in x i = eqb (x / 2 ^ (7 - i) % 2) 1

-- bit p of a map
unfoldable pub bit : List ℕ → ℕ → Bool
bit m p = bit_in (get_or m (p / 8) 0) (p % 8)

-- the byte whose bits are f 0, .., f 7, high bit first
unfoldable pub pack : (ℕ → Bool) → ℕ
pack f = one (f 0) * 128 + one (f 1) * 64 + one (f 2) * 32 + one (f 3) * 16 + one (f 4) * 8 + one (f 5) * 4 + one (f 6) * 2 + one (f 7)

-- the map with each bit p below n at which `on` holds set; all other bits stay, those past the n bits too
unfoldable pub mark : ℕ → (ℕ → Bool) → List ℕ → List ℕ
mark n on m =
    tab (length m) (λ k. cond (ltb (8 * k) n) (pack (λ i. (ltb (8 * k + i) n && on (8 * k + i)) || bit m (8 * k + i))) (get_or m k 0))

-- the zero map: each byte that holds one of the first n bits is zero, so the unused bits of the last of them are; the bytes past them stay
unfoldable pub clear : ℕ → List ℕ → List ℕ
clear n m = tab (length m) (λ k. cond (ltb (8 * k) n) 0 (get_or m k 0))

-- the covered count: the map's ones, of its first n bits
abbrev pub ones : ℕ → List ℕ → ℕ
ones n m = count n (bit m)
