-- Segments: the header, the refusals 1 to 5, the walk, and the walked segments.
-- A segment is given by its position, the file offset of its header's first byte.
use Rattle.std.specs.Prelude.{ℕ, zero, suc, ◌+◌, ◌%◌, ◌^◌, ◌≤◌, List, [], ◌∷◌, ◌++◌, Bool, false, cond, not, ◌&&◌, ◌||◌, length, eqb, ltb}
use Rattle.format.specs.Bytes.{u64_at, same_at, any_of, negative64}
use Rattle.format.specs.Names.{name_file, name_directory, name_sub_block, name_metadata, name_attachment, name_attachment_directory, name_deleted}
use Rattle.format.specs.Checks.{Check, row, first, if_accepted}
use Rattle.format.specs.declared.Fault.TheVariants as Fault

-- ---- the header: 32 bytes, name (16 bytes), AllocatedSize (Long at 16), UsedSize (Long at 24)

unfoldable pub allocated_size : List ℕ → ℕ → ℕ
allocated_size bs p = u64_at bs (p + 16)

unfoldable pub used_size : List ℕ → ℕ → ℕ
used_size bs p = u64_at bs (p + 24)

-- the room: UsedSize, where 0 is read as AllocatedSize
unfoldable pub room : List ℕ → ℕ → ℕ
room bs p = cond (eqb (used_size bs p) 0) (allocated_size bs p) (used_size bs p)

-- the room of the segment at p lies in the file
abbrev pub RoomIn : List ℕ → ℕ → Type 0
RoomIn bs p = p + 32 + room bs p ≤ length bs

-- the position of the next header
unfoldable pub next_segment : List ℕ → ℕ → ℕ
next_segment bs p = p + 32 + allocated_size bs p

-- ---- refusal 1: length 0, not a multiple of 32, or above 2^40

unfoldable pub length_bad : List ℕ → Bool
length_bad bs = any_of (eqb (length bs) 0 ∷ not (eqb (length bs % 32) 0) ∷ ltb (2 ^ 40) (length bs) ∷ [])

-- ---- refusal 2: unknown name

unfoldable pub name_bad : List ℕ → ℕ → Bool
name_bad bs p =
    not
    (any_of
    (same_at bs p name_file ∷
    same_at bs p name_directory ∷
    same_at bs p name_sub_block ∷
    same_at bs p name_metadata ∷
    same_at bs p name_attachment ∷
    same_at bs p name_attachment_directory ∷
    same_at bs p name_deleted ∷
    []))

-- ---- refusal 3: AllocatedSize negative or not a multiple of 32; UsedSize negative or larger; end past the file

unfoldable pub allocated_bad : List ℕ → ℕ → Bool
allocated_bad bs p = any_of (negative64 (allocated_size bs p) ∷ not (eqb (allocated_size bs p % 32) 0) ∷ [])

unfoldable pub used_bad : List ℕ → ℕ → Bool
used_bad bs p = any_of (negative64 (used_size bs p) ∷ ltb (allocated_size bs p) (used_size bs p) ∷ [])

unfoldable pub end_bad : List ℕ → ℕ → Bool
end_bad bs p = ltb (length bs) (next_segment bs p)

unfoldable pub sizes_bad : List ℕ → ℕ → Bool
sizes_bad bs p = any_of (allocated_bad bs p ∷ used_bad bs p ∷ end_bad bs p ∷ [])

-- ---- refusal 5: first isn't the file segment, a later one is, or its room is under 80

unfoldable pub role_bad : List ℕ → ℕ → Bool
role_bad bs p =
    cond (eqb p 0)
    (any_of (not (same_at bs p name_file) ∷ ltb (room bs p) 80 ∷ []))
    (same_at bs p name_file)

-- ---- the walk: for each segment 4, 2, 3, 5

unfoldable pub segment_rows : List ℕ → ℕ → List Check
segment_rows bs p =
    row Fault.SegmentName p (name_bad bs p) ∷
    row Fault.SegmentSizes p (sizes_bad bs p) ∷
    row Fault.FirstSegment p (role_bad bs p) ∷
    []

-- from p on, where n more segments are allowed: one past them is refused as 4
unfoldable pub walk_rows : ℕ → List ℕ → ℕ → List Check
walk_rows zero bs p = row Fault.SegmentCount p (ltb p (length bs)) ∷ []
walk_rows (suc n) bs p = cond (ltb p (length bs)) (segment_rows bs p ++ walk_rows n bs (next_segment bs p)) []

-- the positions of the segments from p on, at most n, up to the first that is refused
unfoldable pub walked_from : ℕ → List ℕ → ℕ → List ℕ
walked_from zero bs p = []
walked_from (suc n) bs p =
    cond (ltb p (length bs))
    (if_accepted (first (segment_rows bs p)) (p ∷ walked_from n bs (next_segment bs p)) [])
    []

-- the walked segments, in order
unfoldable pub walked : List ℕ → List ℕ
walked bs = cond (length_bad bs) [] (walked_from 8192 bs 0)

-- refusals 1 to 5
unfoldable pub segments_rows : List ℕ → List Check
segments_rows bs = row Fault.Length 0 (length_bad bs) ∷ walk_rows 8192 bs 0

-- ---- naming a segment

unfoldable pub member : ℕ → List ℕ → Bool
member q [] = false
member q (x ∷ xs) = eqb x q || member q xs

-- position q names a walked segment of the kind that has that name
unfoldable pub walked_as : List ℕ → ℕ → List ℕ → Bool
walked_as bs q name = member q (walked bs) && same_at bs q name
