-- Where packed segments stand. Assumes nothing.
use Prim.Native.Nat.{ℕ, zero, suc, ◌+◌, ◌%◌, ◌≤◌, ◌<◌}
use mathlib.Core.Path.{◌≡◌, refl, ap, ◌∙◌}
use mathlib.Core.List.{List, [], ◌∷◌, ◌++◌}
use native.Mathlib.Omega.{arith}
use native.Mathlib.Nat.{add-zero}
use lib.ListN.{length, get_or, take, drop, length-append}
use lib.Seq.{split_at}
use Rattle.format.specs.Bytes.{part_of}
use Rattle.pack.specs.Pack.{Segment, segment_size, segment_bytes, packed, each, places_from}
use Rattle.pack.proofs.Sizes.{size-whole}
use Rattle.pack.proofs.Packed.{segment-length, packed-append, segment-part, segment-there, content-there}

-- ---- what holds of every segment

abbrev pub AllOf : (Segment → Type 0) → List Segment → Type 0
AllOf P [] = Unit {0}
AllOf P (s ∷ ss) = P s × AllOf P ss

module _ (P : Segment → Type 0) where
  pub all_append : (xs ys : List Segment) → AllOf P xs → AllOf P ys → AllOf P (xs ++ ys)
  all_append [] ys a b = b
  all_append (x ∷ xs) ys a b = (a.0, all_append xs ys a.1 b)

  pub all-each : (n : ℕ) (f : ℕ → Segment) → ((i : ℕ) → i < n → P (f i)) → AllOf P (each n f)
  unfolding each
  all-each zero f h = tt
  all-each (suc n) f h = all_append (each n f) (f n ∷ []) (all-each n f (λ i k. h i (omega arith))) (h n (omega arith), tt)

  pub all_so : (Q : Segment → Type 0) → ((s : Segment) → P s → Q s) → (ss : List Segment) → AllOf P ss → AllOf Q ss
  all_so Q f [] a = tt
  all_so Q f (s ∷ ss) a = (f s a.0, all_so Q f ss a.1)

  pub all-number : (ss : List Segment) (d : Segment) (i : ℕ) → AllOf P ss → i < length ss → P (get_or ss i d)
  all-number [] d i a h = absurd (omega arith)
  all-number (s ∷ ss) d zero a h = a.0
  all-number (s ∷ ss) d (suc i) a h = all-number ss d i a.1 (omega arith)

-- every name has 16 bytes
abbrev pub Named : List Segment → Type 0
Named ss = AllOf (λ s. length s.name ≡ 16) ss

-- the size of a segment
abbrev pub size_of : Segment → ℕ
size_of s = segment_size (length s.content)

-- ---- how long packed segments are

pub packed_more : (s : Segment) (ss : List Segment) → length s.name ≡ 16 → length (packed (s ∷ ss)) ≡ size_of s + length (packed ss)
unfolding packed
packed_more s ss h = length-append (segment_bytes s) (packed ss) ∙ ap (λ n. n + length (packed ss)) (segment-length s h)

pub packed-whole : (ss : List Segment) → Named ss → length (packed ss) % 32 ≡ 0
unfolding packed
packed-whole [] n = refl
packed-whole (s ∷ ss) n = omega (arith, packed_more s ss n.0, packed-whole ss n.1, size-whole (length s.content))

-- ---- places

pub places-length : (p : ℕ) (ss : List Segment) → length (places_from p ss) ≡ length ss
unfolding places_from
places-length p [] = refl
places-length p (s ∷ ss) = ap suc (places-length (p + size_of s) ss)

pub places-append : (p : ℕ) (xs ys : List Segment) → Named xs → places_from p (xs ++ ys) ≡ places_from p xs ++ places_from (p + length (packed xs)) ys
unfolding places_from packed
places-append p [] ys n = rw (add-zero p)
places-append p (x ∷ xs) ys n =
    let e : p + length (packed (x ∷ xs)) ≡ p + size_of x + length (packed xs) = omega (arith, packed_more x xs n.0) in
    rw e (ap (λ l. p ∷ l) (places-append (p + size_of x) xs ys n.1))

module _ (d : Segment) where
  -- the next one stands where one ends
  pub place-next : (p : ℕ) (ss : List Segment) (i : ℕ) → suc i < length ss
      → get_or (places_from p ss) (suc i) 0 ≡ get_or (places_from p ss) i 0 + size_of (get_or ss i d)
  unfolding places_from
  place-next p [] i h = absurd (omega arith)
  place-next p (s ∷ []) i h = absurd (omega arith)
  place-next p (s ∷ t ∷ ss) zero h = refl
  place-next p (s ∷ t ∷ ss) (suc i) h = place-next (p + size_of s) (t ∷ ss) i (omega arith)

-- by the segments before it
pub place_at : (p : ℕ) (ss : List Segment) (i : ℕ) → Named ss → i < length ss → get_or (places_from p ss) i 0 ≡ p + length (packed (take i ss))
unfolding places_from packed
place_at p [] i n h = absurd (omega arith)
place_at p (s ∷ ss) zero n h = omega arith
place_at p (s ∷ ss) (suc i) n h = place_at (p + size_of s) ss i n.1 (omega arith) ∙ omega (arith, packed_more s (take i ss) n.0)

-- ---- what stands there

module _ (ss : List Segment) (d : Segment) (n : Named ss) (i : ℕ) (h : i < length ss) where
  abbrev s : Segment
  s = get_or ss i d

  abbrev place : ℕ
  place = get_or (places_from 0 ss) i 0

  named : length s.name ≡ 16
  named = all-number (λ s. length s.name ≡ 16) ss d i n h

  -- the segments before it, it, and those behind it
  cut : ss ≡ take i ss ++ (s ∷ drop (suc i) ss)
  cut = split_at ss i d h

  before : place ≡ length (packed (take i ss))
  before = place_at 0 ss i n h ∙ omega arith

  pub part_placed : (o m : ℕ) → o + m ≤ size_of s → part_of (packed ss) (place + o) m ≡ part_of (segment_bytes s) o m
  part_placed o m k = rw before (ap (λ l. part_of (packed l) (length (packed (take i ss)) + o) m) cut ∙ segment-part (take i ss) s (drop (suc i) ss) named o m k)

  pub segment-placed : part_of (packed ss) place (size_of s) ≡ segment_bytes s
  segment-placed = rw before (ap (λ l. part_of (packed l) (length (packed (take i ss))) (size_of s)) cut ∙ segment-there (take i ss) s (drop (suc i) ss) named)

  pub content-placed : (o m : ℕ) → o + m ≤ length s.content → part_of (packed ss) (place + 32 + o) m ≡ part_of s.content o m
  content-placed o m k =
      rw before
      (ap (λ l. part_of (packed l) (length (packed (take i ss)) + 32 + o) m) cut ∙ content-there (take i ss) s (drop (suc i) ss) named o m k)

  -- where it ends
  pub placed_end : length (packed ss) ≡ place + size_of s + length (packed (drop (suc i) ss))
  placed_end =
      let a : length (packed ss) ≡ length (packed (take i ss)) + length (packed (s ∷ drop (suc i) ss)) =
      ap (λ l. length (packed l)) cut ∙ ap length (packed-append (take i ss) (s ∷ drop (suc i) ss)) ∙ length-append (packed (take i ss)) _ in
      omega (arith, before, packed_more s (drop (suc i) ss) named)

  pub segment-within : place + size_of s ≤ length (packed ss)
  segment-within = omega (arith, placed_end)
