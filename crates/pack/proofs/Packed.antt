-- Segments that are packed one behind the other: how long they are, where each stands, and what stands there. Assumes nothing.
use Prim.Native.Nat.{ℕ, ◌+◌, ◌-◌, ◌≤◌}
use mathlib.Core.Path.{◌≡◌, refl, sym, ◌∙◌}
use mathlib.Core.List.{List, [], ◌∷◌, ◌++◌, append_assoc}
use native.Mathlib.Omega.{arith}
use lib.ListN.{length, length-append}
use Rattle.format.specs.Bytes.{part_of}
use Rattle.pack.specs.Pack.{Segment, long, zeros, allocated, segment_size, header, segment_bytes, packed}
use Rattle.pack.proofs.Sizes.{allocated-holds, size_is, size_holds}
use Rattle.format.proofs.Parts.{part-all, part-front, part-back, part-middle, part-between}
use Rattle.pack.proofs.Numbers.{bytes-length, zeros-length}

-- ---- a header, whose name has 16 bytes

module _ (name : List ℕ) (n : ℕ) (h : length name ≡ 16) where
  pub header-length : length (header name n) ≡ 32
  unfolding header
  header-length =
      let a = length-append name (long (allocated n) ++ long n) in
      let b = length-append (long (allocated n)) (long n) in
      omega (arith, bytes-length 8 (allocated n), bytes-length 8 n)

  header-name : part_of (header name n) 0 16 ≡ name
  unfolding header
  header-name = part-front name _ 0 16 (omega arith) ∙ part-all name 16 (sym h)

  header-allocated : part_of (header name n) 16 8 ≡ long (allocated n)
  unfolding header
  header-allocated = part-between name (long (allocated n)) (long n) 16 8 (sym h) (sym (bytes-length 8 (allocated n)))

  header-used : part_of (header name n) 24 8 ≡ long n
  unfolding header
  header-used =
      part-back name (long (allocated n) ++ long n) 24 8 8 (omega arith)
      ∙ part-back (long (allocated n)) (long n) 8 0 8 (omega (arith, bytes-length 8 (allocated n)))
      ∙ part-all (long n) 8 (sym (bytes-length 8 n))

-- ---- one segment

module _ (s : Segment) (h : length s.name ≡ 16) where
  pub segment-length : length (segment_bytes s) ≡ segment_size (length s.content)
  unfolding segment_bytes
  segment-length =
      let n : ℕ = length s.content in
      let a = length-append (header s.name n) (s.content ++ zeros (allocated n - n)) in
      let b = length-append s.content (zeros (allocated n - n)) in
      omega (arith, header-length s.name n h, zeros-length (allocated n - n), allocated-holds n, size_is n)

  header-part : (o m : ℕ) → o + m ≤ 32 → part_of (segment_bytes s) o m ≡ part_of (header s.name (length s.content)) o m
  unfolding segment_bytes
  header-part o m k = part-front (header s.name (length s.content)) _ o m (omega (arith, header-length s.name (length s.content) h))

  pub segment-name : part_of (segment_bytes s) 0 16 ≡ s.name
  segment-name = header-part 0 16 (omega arith) ∙ header-name s.name (length s.content) h

  pub segment-allocated : part_of (segment_bytes s) 16 8 ≡ long (allocated (length s.content))
  segment-allocated = header-part 16 8 (omega arith) ∙ header-allocated s.name (length s.content) h

  pub segment-used : part_of (segment_bytes s) 24 8 ≡ long (length s.content)
  segment-used = header-part 24 8 (omega arith) ∙ header-used s.name (length s.content) h

  pub segment-content : (o m : ℕ) → o + m ≤ length s.content → part_of (segment_bytes s) (32 + o) m ≡ part_of s.content o m
  unfolding segment_bytes
  segment-content o m k =
      part-middle (header s.name (length s.content)) s.content _ (32 + o) o m
      (omega (arith, header-length s.name (length s.content) h)) k

-- ---- segments one behind the other

pub packed-append : (xs ys : List Segment) → packed (xs ++ ys) ≡ packed xs ++ packed ys
unfolding packed
packed-append [] ys = refl
packed-append (x ∷ xs) ys = rw (packed-append xs ys) (sym (append_assoc (segment_bytes x) (packed xs) (packed ys)))

pub packed-around : (xs : List Segment) (s : Segment) (ys : List Segment) → packed (xs ++ (s ∷ ys)) ≡ packed xs ++ (segment_bytes s ++ packed ys)
unfolding packed
packed-around xs s ys = packed-append xs (s ∷ ys)

-- the segment s behind xs and before ys
module _ (xs : List Segment) (s : Segment) (ys : List Segment) (h : length s.name ≡ 16) where
  pub segment-part : (o m : ℕ) → o + m ≤ segment_size (length s.content) → part_of (packed (xs ++ (s ∷ ys))) (length (packed xs) + o) m ≡ part_of (segment_bytes s) o m
  segment-part o m k = rw (packed-around xs s ys) (part-middle (packed xs) (segment_bytes s) (packed ys) _ o m refl (omega (arith, segment-length s h)))

  pub segment-there : part_of (packed (xs ++ (s ∷ ys))) (length (packed xs)) (segment_size (length s.content)) ≡ segment_bytes s
  segment-there = rw (packed-around xs s ys) (part-between (packed xs) (segment_bytes s) (packed ys) _ _ refl (sym (segment-length s h)))

  pub content-there : (o m : ℕ) → o + m ≤ length s.content → part_of (packed (xs ++ (s ∷ ys))) (length (packed xs) + 32 + o) m ≡ part_of s.content o m
  content-there o m k =
      let e : length (packed xs) + 32 + o ≡ length (packed xs) + (32 + o) = omega arith in
      rw e (segment-part (32 + o) m (omega (arith, size_holds (length s.content))) ∙ segment-content s h o m k)
