-- Packed segments tile their file: its length is right, each segment is right where it stands, and they are the only ones. Assumes nothing.
use Prim.Native.Nat.{ℕ, zero, suc, ◌+◌, ◌%◌, ◌^◌, ◌≤◌, ◌<◌, suc-le-suc}
use mathlib.Core.Path.{◌≡◌, refl, sym, ◌∙◌}
use mathlib.Core.List.{List, [], ◌∷◌, ◌++◌}
use mathlib.Core.Bool.{true, false}
use native.Mathlib.Omega.{arith}
use native.Mathlib.Nat.{add-zero, zero-add}
use lib.ListN.{length, get_or, length-append}
use lib.Seq.{take-append_seam, get_or-append_seam}
use lib.Dec.{eqb}
use borrow.Author.Tests.{le-ltb, lt-leb, eq-eqb, ne_eqb, eqb-true}
use Rattle.format.specs.Bytes.{any_of, same_at, part_of}
use Rattle.format.specs.Names.{name_file, name_directory, name_sub_block, name_metadata, name_attachment, name_attachment_directory, name_deleted}
use Rattle.format.specs.Checks.{first}
use Rattle.format.specs.Segments.{allocated_size, used_size, room, next_segment, length_bad, name_bad, allocated_bad, used_bad, end_bad, sizes_bad, role_bad, walked, segments_rows}
use Rattle.format.specs.WellFormed as W
use Rattle.format.specs.WellFormed.{Chain, Each, Among}
use Rattle.format.specs.Checks.{Accepted}
use Rattle.format.proofs.Below.{by_bool, all-intro}
use Rattle.format.proofs.SegmentLaws.{next-is}
use Rattle.format.proofs.Walk.{chain-segments}
use Rattle.pack.specs.Pack.{Segment, allocated, segment_bytes, packed, places_from}
use Rattle.pack.proofs.Sizes.{allocated-is, allocated-holds, allocated-near, allocated-whole, size_is, size-header, size_holds}
use Rattle.format.proofs.Parts.{part-all, same-agrees}
use Rattle.pack.proofs.Numbers.{long-read}
use Rattle.pack.proofs.Packed.{segment-name, segment-allocated, segment-used}
use Rattle.pack.proofs.Places.{AllOf, Named, size_of, all_so, all-number, packed_more, packed-whole, places-length, place_at, part_placed, segment-within}

-- ---- segments that make a file

-- it has a name of the format
pub record Live (s : Segment) : Type 0 where
  pub size : length s.name ≡ 16
  pub known : name_bad s.name 0 ≡ false

-- the file segment has its fixed part
pub record First (s : Segment) : Type 0 where
  pub live : Live s
  pub file : same_at s.name 0 name_file ≡ true
  pub fixed : 80 ≤ length s.content

pub record Later (s : Segment) : Type 0 where
  pub live : Live s
  pub other : same_at s.name 0 name_file ≡ false

-- the file segment comes first, and there is no other
abbrev pub Ordered : List Segment → Type 0
Ordered [] = ⊥
Ordered (s ∷ ss) = First s × AllOf Later ss

pub record Tiles (ss : List Segment) : Type 0 where
  pub ordered : Ordered ss
  pub few : length ss ≤ 8192
  pub small : length (packed ss) ≤ 2 ^ 40

all_live : (ss : List Segment) → Ordered ss → AllOf Live ss
all_live [] o = absurd o
all_live (s ∷ ss) o = (o.0.live, all_so Later Live (λ s l. l.live) ss o.1)

pub all_named : (ss : List Segment) → Ordered ss → Named ss
all_named ss o = all_so Live (λ s. length s.name ≡ 16) (λ s l. l.size) ss (all_live ss o)

-- ---- names that are the same 16 bytes

same_name : (ds : List ℕ) (a : ℕ) (bs : List ℕ) (b : ℕ) → part_of ds a 16 ≡ part_of bs b 16 → name_bad ds a ≡ name_bad bs b
unfolding name_bad name_file name_directory name_sub_block name_metadata name_attachment name_attachment_directory name_deleted
same_name ds a bs b e =
    let f : (xs : List ℕ) → length xs ≤ 16 → same_at ds a xs ≡ same_at bs b xs = λ xs. same-agrees ds a bs b 16 xs e in
    rw (
      f name_file (omega arith),
      f name_directory (omega arith),
      f name_sub_block (omega arith),
      f name_metadata (omega arith),
      f name_attachment (omega arith),
      f name_attachment_directory (omega arith),
      f name_deleted (omega arith),
    )

-- a string stands where it begins
same-own : (xs : List ℕ) → same_at xs 0 xs ≡ true
unfolding same_at
same-own xs = all-intro (length xs) _ (λ i h. eq-eqb (get_or xs (0 + i) 0) (get_or xs i 0) (rw (zero-add i)))

-- ---- segment i where it stands

module _ (ss : List Segment) (t : Tiles ss) (d : Segment) (i : ℕ) (h : i < length ss) where
  abbrev s : Segment
  s = get_or ss i d

  abbrev n : ℕ
  n = length s.content

  abbrev fs : List ℕ
  fs = packed ss

  abbrev place : ℕ
  place = get_or (places_from 0 ss) i 0

  live : Live s
  live = all-number Live ss d i (all_live ss t.ordered) h

  within : place + size_of s ≤ length fs
  within = segment-within ss d (all_named ss t.ordered) i h

  small : n ≤ 2 ^ 40
  small = omega (arith, within, t.small, size_holds n)

  here : (o m : ℕ) → o + m ≤ 32 → part_of fs (place + o) m ≡ part_of (segment_bytes s) o m
  here o m k = part_placed ss d (all_named ss t.ordered) i h o m (omega (arith, size-header n))

  pub allocated-placed : allocated_size fs place ≡ allocated n
  unfolding allocated_size
  allocated-placed =
      long-read fs (place + 16) (allocated n) (here 16 8 (omega arith) ∙ segment-allocated s live.size) (omega (arith, allocated-near n, small))

  pub used-placed : used_size fs place ≡ n
  unfolding used_size
  used-placed = long-read fs (place + 24) n (here 24 8 (omega arith) ∙ segment-used s live.size) (omega (arith, small))

  -- the room of an empty one is AllocatedSize, which is 0 as well
  pub room-placed : room fs place ≡ n
  unfolding room
  room-placed = rw (used-placed, allocated-placed) (by_bool (eqb n 0) (λ e. rw e (omega (arith, allocated-is n, eqb-true n 0 e))) (λ e. rw e))

  pub next-placed : next_segment fs place ≡ place + size_of s
  next-placed = next-is fs place ∙ omega (arith, allocated-placed, size_is n)

  name-here : part_of fs place 16 ≡ part_of s.name 0 16
  name-here =
      rw (add-zero place) at (here 0 16 (omega arith)) ∙ segment-name s live.size ∙ sym (part-all s.name 16 (sym live.size))

  pub string-placed : (xs : List ℕ) → length xs ≤ 16 → same_at fs place xs ≡ same_at s.name 0 xs
  string-placed xs k = same-agrees fs place s.name 0 16 xs name-here k

  pub name-placed : same_at fs place s.name ≡ true
  name-placed = string-placed s.name (omega (arith, live.size)) ∙ same-own s.name

  name-right : name_bad fs place ≡ false
  name-right = same_name fs place s.name 0 name-here ∙ live.known

  sizes-right : sizes_bad fs place ≡ false
  unfolding sizes_bad allocated_bad used_bad end_bad any_of
  sizes-right =
      rw (
        allocated-placed,
        used-placed,
        next-placed,
        lt-leb (2 ^ 63) (allocated n) (omega (arith, small, allocated-near n)),
        eq-eqb (allocated n % 32) 0 (allocated-whole n),
        lt-leb (2 ^ 63) n (omega (arith, small)),
        le-ltb (allocated n) n (allocated-holds n),
        le-ltb (length fs) (place + size_of s) within,
      )

-- ---- the role: the file segment stands at 0, and no other

file-size : length name_file ≡ 16
unfolding name_file
file-size = refl

-- the first stands at the beginning, and the others do not
first-place : (s : Segment) (ss : List Segment) → get_or (places_from 0 (s ∷ ss)) 0 0 ≡ 0
unfolding places_from
first-place s ss = refl

places-rise : (p : ℕ) (ss : List Segment) (i : ℕ) → i < length ss → p ≤ get_or (places_from p ss) i 0
unfolding places_from
places-rise p [] i h = absurd (omega arith)
places-rise p (s ∷ ss) zero h = omega arith
places-rise p (s ∷ ss) (suc i) h = omega (arith, places-rise (p + size_of s) ss i (omega arith))

later-place : (s : Segment) (ss : List Segment) (i : ℕ) → i < length ss → 32 ≤ get_or (places_from 0 (s ∷ ss)) (suc i) 0
unfolding places_from
later-place s ss i h = omega (arith, places-rise (0 + size_of s) ss i h, size-header (length s.content))

role-first : (bs : List ℕ) (p : ℕ) → p ≡ 0 → same_at bs p name_file ≡ true → 80 ≤ room bs p → role_bad bs p ≡ false
unfolding role_bad any_of
role-first bs p e f r = rw (eq-eqb p 0 e, f, le-ltb (room bs p) 80 r)

role-later : (bs : List ℕ) (p : ℕ) → (p ≡ 0 → ⊥) → same_at bs p name_file ≡ false → role_bad bs p ≡ false
unfolding role_bad
role-later bs p h f = rw (ne_eqb p 0 h) f

role-right : (ss : List Segment) → Tiles ss → (d : Segment) (i : ℕ) → i < length ss → role_bad (packed ss) (get_or (places_from 0 ss) i 0) ≡ false
role-right [] t d i h = absurd (omega arith)
role-right (s ∷ ss) t d zero h =
    let f = t.ordered.0 in
    role-first _ _ (first-place s ss) (string-placed (s ∷ ss) t d 0 h name_file (omega (arith, file-size)) ∙ f.file) (rw (room-placed (s ∷ ss) t d 0 h) f.fixed)
role-right (s ∷ ss) t d (suc i) h =
    let k : i < length ss = omega arith in
    let l = all-number Later ss d i t.ordered.1 k in
    role-later _ _ (λ e. omega (arith, later-place s ss i k)) (string-placed (s ∷ ss) t d (suc i) h name_file (omega (arith, file-size)) ∙ l.other)

-- ---- the file of them

-- a chain through the places, where each step is a segment's size
chain : (next : ℕ → ℕ) (end : ℕ) (d : Segment) (ss : List Segment) (p : ℕ) → Named ss → p + length (packed ss) ≡ end
    → ((i : ℕ) → i < length ss → next (get_or (places_from p ss) i 0) ≡ get_or (places_from p ss) i 0 + size_of (get_or ss i d))
    → Chain next p end (places_from p ss)
unfolding places_from packed
chain next end d [] p n e f = omega arith
chain next end d (s ∷ ss) p n e f =
    let step : next p ≡ p + size_of s = f 0 (omega arith) in
    (refl, rw step (chain next end d ss (p + size_of s) n.1 (omega (arith, packed_more s ss n.0)) (λ i h. f (suc i) (suc-le-suc h))))

packed-some : (ss : List Segment) → Ordered ss → 0 < length (packed ss)
packed-some [] o = absurd o
packed-some (s ∷ ss) o = omega (arith, packed_more s ss o.0.live.size, size-header (length s.content))

-- what a list has behind its end; no segment is there
abbrev no_segment : Segment
no_segment = record { name = []; content = [] }

module _ (ss : List Segment) (t : Tiles ss) where
  pub length-right : length_bad (packed ss) ≡ false
  unfolding length_bad any_of
  length-right =
      rw (
        ne_eqb (length (packed ss)) 0 (λ e. omega (arith, packed-some ss t.ordered)),
        eq-eqb (length (packed ss) % 32) 0 (packed-whole ss (all_named ss t.ordered)),
        le-ltb (2 ^ 40) (length (packed ss)) t.small,
      )

  pub tile : Chain (next_segment (packed ss)) 0 (length (packed ss)) (places_from 0 ss)
  tile = chain (next_segment (packed ss)) (length (packed ss)) no_segment ss 0 (all_named ss t.ordered) (omega arith) (next-placed ss t no_segment)

  pub segments-right : Each (W.Segment (packed ss)) (places_from 0 ss)
  segments-right i k =
      let h : i < length ss = omega (arith, places-length 0 ss) in
      record { name = name-right ss t no_segment i h; sizes = sizes-right ss t no_segment i h; role = role-right ss t no_segment i h }

  -- the refusals 1 to 5 are not given, and these are the walked segments
  walk : (first (segments_rows (packed ss)) ≡ Accepted) × (walked (packed ss) ≡ places_from 0 ss)
  walk = chain-segments (packed ss) (places_from 0 ss) length-right tile segments-right (omega (arith, places-length 0 ss, t.few))

  pub segments-pass : first (segments_rows (packed ss)) ≡ Accepted
  segments-pass = walk.0

  pub walked-packed : walked (packed ss) ≡ places_from 0 ss
  walked-packed = walk.1

-- ---- the segment s behind xs and before ys

module _ (xs : List Segment) (s : Segment) (ys : List Segment) where
  abbrev all : List Segment
  all = xs ++ (s ∷ ys)

  is-there : length xs < length all
  is-there = omega (arith, length-append xs (s ∷ ys))

  is-it : get_or all (length xs) s ≡ s
  is-it = get_or-append_seam xs s ys s

  module _ (t : Tiles all) where
    is_at : get_or (places_from 0 all) (length xs) 0 ≡ length (packed xs)
    is_at = place_at 0 all (length xs) (all_named all t.ordered) is-there ∙ rw (take-append_seam xs (s ∷ ys)) (omega arith)

    pub among-all : Among (length (packed xs)) (places_from 0 all)
    among-all = (length xs, rw (places-length 0 all) is-there, is_at)

    pub room-there : room (packed all) (length (packed xs)) ≡ length s.content
    room-there = rw (is_at, is-it) at (room-placed all t s (length xs) is-there)

    pub name-there : same_at (packed all) (length (packed xs)) s.name ≡ true
    name-there = rw (is_at, is-it) at (name-placed all t s (length xs) is-there)
