-- Numbers that are written: their bytes, and that they are read back. Assumes nothing.
use Prim.Native.Nat.{ℕ, zero, suc, ◌+◌, ◌/◌, ◌^◌, ◌≤◌, ◌<◌}
use mathlib.Core.Path.{◌≡◌, refl, sym, ap, ◌∙◌}
use mathlib.Core.List.{List}
use native.Mathlib.Omega.{arith}
use native.Mathlib.Nat.{add-zero, add_assoc, div-div-eq-div-mul}
use lib.ListN.{length, get_or, length-replicate}
use Rattle.format.specs.Bytes.{part_of, u32_at, u64_at}
use Rattle.std.specs.Int.{w64, to_le_bytes}
use Rattle.pack.specs.Pack.{bytes_of, long, zeros}
use Rattle.format.proofs.Parts.{part_at}

-- ---- lengths

pub bytes-length : (n x : ℕ) → length (bytes_of n x) ≡ n
unfolding bytes_of
bytes-length zero x = refl
bytes-length (suc n) x = ap suc (bytes-length n (x / 256))

pub zeros-length : (n : ℕ) → length (zeros n) ≡ n
unfolding zeros
zeros-length n = length-replicate n 0

-- ---- bytes

pub byte_small : (n x i : ℕ) → get_or (bytes_of n x) i 0 < 256
unfolding bytes_of
byte_small zero x i = omega arith
byte_small (suc n) x zero = omega arith
byte_small (suc n) x (suc i) = byte_small n (x / 256) i

-- also behind the end
pub zeros-at : (n i : ℕ) → get_or (zeros n) i 0 ≡ 0
unfolding zeros
zeros-at zero i = refl
zeros-at (suc n) zero = refl
zeros-at (suc n) (suc i) = zeros-at n i

-- ---- a number in a part of n bytes that are xs

module _ (fs : List ℕ) (p n : ℕ) (xs : List ℕ) (e : part_of fs p n ≡ xs) where
  byte-in : (i : ℕ) → i < n → get_or fs (p + i) 0 ≡ get_or xs i 0
  byte-in i h = sym (part_at fs p n i h) ∙ ap (λ l. get_or l i 0) e

  pub int-in : (o : ℕ) → o + 4 ≤ n → u32_at fs (p + o) ≡ u32_at xs o
  unfolding u32_at
  int-in o h =
      rw (add_assoc p o 1, add_assoc p o 2, add_assoc p o 3)
      (rw (byte-in o (omega arith), byte-in (o + 1) (omega arith), byte-in (o + 2) (omega arith), byte-in (o + 3) (omega arith)))

  pub long-in : (o : ℕ) → o + 8 ≤ n → u64_at fs (p + o) ≡ u64_at xs o
  unfolding u64_at
  long-in o h = rw (add_assoc p o 4) (rw (int-in o (omega arith), int-in (o + 4) (omega arith)))

-- ---- a Long, as std gives its bytes

pub long-is : (x : ℕ) → to_le_bytes w64 x ≡ long x
unfolding bytes_of
long-is x = simp div-div-eq-div-mul

-- ---- a Long read back

eight : (x : ℕ) → x < 2 ^ 64 → u64_at (long x) 0 ≡ x
unfolding u64_at u32_at bytes_of
eight x h = omega arith

pub long-read : (fs : List ℕ) (p x : ℕ) → part_of fs p 8 ≡ long x → x < 2 ^ 64 → u64_at fs p ≡ x
long-read fs p x e h = rw (add-zero p) at (long-in fs p 8 (long x) e 0 (omega arith)) ∙ eight x h

-- ---- an Int of zero bytes

pub int-zero : (fs : List ℕ) (p : ℕ) → part_of fs p 4 ≡ zeros 4 → u32_at fs p ≡ 0
unfolding u32_at zeros
int-zero fs p e = rw (add-zero p) at (int-in fs p 4 (zeros 4) e 0 (omega arith))
