-- How a segment is written: a header, a content, and zero padding; and a file that is nothing but such segments, one after the other.
use Rattle.std.specs.Prelude.{ℕ, zero, suc, ◌+◌, ◌*◌, ◌-◌, ◌/◌, ◌%◌, List, [], ◌∷◌, ◌++◌, length, replicate}

-- the n low bytes of a number, the lowest first
unfoldable pub bytes_of : ℕ → ℕ → List ℕ
bytes_of zero x = []
bytes_of (suc n) x = (x % 256) ∷ bytes_of n (x / 256)

-- a Long
abbrev pub long : ℕ → List ℕ
long x = bytes_of 8 x

-- spare bytes, and padding
unfoldable pub zeros : ℕ → List ℕ
zeros n = replicate n 0

-- AllocatedSize: the smallest multiple of 32 that holds a content of n bytes
unfoldable pub allocated : ℕ → ℕ
allocated n = (n + 31) / 32 * 32

-- how long a segment with a content of n bytes is
unfoldable pub segment_size : ℕ → ℕ
segment_size n = 32 + allocated n

-- a segment that is to be written
pub record Segment : Type 0 where
  pub name : List ℕ
  pub content : List ℕ

-- name (16 bytes), AllocatedSize, UsedSize, which is the content's length
unfoldable pub header : List ℕ → ℕ → List ℕ
header name n = name ++ (long (allocated n) ++ long n)

unfoldable pub segment_bytes : Segment → List ℕ
segment_bytes s =
    header s.name (length s.content) ++
    (s.content ++
    zeros (allocated (length s.content) - length s.content))

-- the segments one after the other
unfoldable pub packed : List Segment → List ℕ
packed [] = []
packed (s ∷ ss) = segment_bytes s ++ packed ss

-- f 0, .., f (n - 1)
unfoldable pub each : {A : Type 0} → ℕ → (ℕ → A) → List A
each zero f = []
each (suc n) f = each n f ++ (f n ∷ [])

-- the bytes of f 0, .., f (n - 1) one after the other
unfoldable pub joined : ℕ → (ℕ → List ℕ) → List ℕ
joined zero f = []
joined (suc n) f = joined n f ++ f n

-- where segments stand that are written one after the other from p on
unfoldable pub places_from : ℕ → List Segment → List ℕ
places_from p [] = []
places_from p (s ∷ ss) = p ∷ places_from (p + segment_size (length s.content)) ss
