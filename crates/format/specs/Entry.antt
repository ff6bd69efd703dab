-- An entry DV of the sub-block directory, and its dimensions. An entry is given by the file offset of its first byte.
use Rattle.std.specs.Prelude.{ℕ, ◌+◌, ◌*◌, List, [], ◌∷◌, Bool, false, cond, not, get_or, eqb, ltb}
use Rattle.format.specs.Bytes.{u32_at, u64_at, same_at, any_of, any_below, least_below, negative32, biased}
use Rattle.format.specs.Names.{mark_tile}

-- ---- `DV` at 0, PixelType Int 2, FilePosition Long 6, FilePart Int 14, Compression Int 18, pyramid byte 22, DimensionCount Int 28

unfoldable pub pixel_type : List ℕ → ℕ → ℕ
pixel_type bs e = u32_at bs (e + 2)

unfoldable pub file_position : List ℕ → ℕ → ℕ
file_position bs e = u64_at bs (e + 6)

unfoldable pub entry_part : List ℕ → ℕ → ℕ
entry_part bs e = u32_at bs (e + 14)

unfoldable pub compression : List ℕ → ℕ → ℕ
compression bs e = u32_at bs (e + 18)

unfoldable pub pyramid_byte : List ℕ → ℕ → ℕ
pyramid_byte bs e = get_or bs (e + 22) 0

unfoldable pub dimension_count : List ℕ → ℕ → ℕ
dimension_count bs e = u32_at bs (e + 28)

-- ---- a dimension, 20 bytes at d: letter 0 (4 bytes), Start Int 4, Size Int 8, StartCoordinate 12, StoredSize Int 16

unfoldable pub letter : List ℕ → ℕ → ℕ
letter bs d = u32_at bs d

unfoldable pub start : List ℕ → ℕ → ℕ
start bs d = u32_at bs (d + 4)

unfoldable pub size : List ℕ → ℕ → ℕ
size bs d = u32_at bs (d + 8)

unfoldable pub coordinate_bits : List ℕ → ℕ → ℕ
coordinate_bits bs d = u32_at bs (d + 12)

unfoldable pub stored_field : List ℕ → ℕ → ℕ
stored_field bs d = u32_at bs (d + 16)

-- the stored size: StoredSize, where 0 is read as Size
unfoldable pub stored : List ℕ → ℕ → ℕ
stored bs d = cond (eqb (stored_field bs d) 0) (size bs d) (stored_field bs d)

-- the place of an entry's dimension k, counted from 0
abbrev pub dimension_place : ℕ → ℕ → ℕ
dimension_place e k = e + 32 + 20 * k

-- the place behind an entry
unfoldable pub next_entry : List ℕ → ℕ → ℕ
next_entry bs e = dimension_place e (dimension_count bs e)

-- ---- refusal 11: an entry that is not well formed

-- its mark, 1 to 16 dimensions
unfoldable pub head_bad : List ℕ → ℕ → Bool
head_bad bs e = any_of (not (same_at bs e mark_tile) ∷ eqb (dimension_count bs e) 0 ∷ ltb 16 (dimension_count bs e) ∷ [])

-- a letter is one of A to Z (65 to 90) and three zero bytes
unfoldable pub letter_bad : List ℕ → ℕ → Bool
letter_bad bs d = any_of (ltb (letter bs d) 65 ∷ ltb 90 (letter bs d) ∷ [])

-- Start + Size over 2,147,483,647, a sum of signed numbers: with 2 ^ 31 added to each, over 2 ^ 32 + 2,147,483,647
unfoldable pub too_far : List ℕ → ℕ → Bool
too_far bs d = ltb 6442450943 (biased (start bs d) + biased (size bs d))

-- X (88) or Y (89)
unfoldable pub is_plane : ℕ → Bool
is_plane x = any_of (eqb x 88 ∷ eqb x 89 ∷ [])

-- the largest Size that a letter other than X and Y may have: 1 for M (77) and S (83), 1,024 for the others (paper 02, Req 10)
unfoldable pub most_size : ℕ → ℕ
most_size x = cond (eqb x 77) 1 (cond (eqb x 83) 1 1024)

-- X and Y have Size at least 1
unfoldable pub plane_size_bad : List ℕ → ℕ → Bool
plane_size_bad bs d = any_of (eqb (size bs d) 0 ∷ negative32 (size bs d) ∷ [])

-- every other dimension has Size 1, or up to 1,024 where it is not M or S, and stored size Size
unfoldable pub other_size_bad : List ℕ → ℕ → Bool
other_size_bad bs d = any_of (eqb (size bs d) 0 ∷ ltb (most_size (letter bs d)) (size bs d) ∷ not (eqb (stored bs d) (size bs d)) ∷ [])

unfoldable pub size_bad : List ℕ → ℕ → Bool
size_bad bs d = cond (is_plane (letter bs d)) (plane_size_bad bs d) (other_size_bad bs d)

unfoldable pub dimension_bad : List ℕ → ℕ → Bool
dimension_bad bs d =
    any_of
    (letter_bad bs d ∷
    too_far bs d ∷
    negative32 (stored_field bs d) ∷
    size_bad bs d ∷
    [])

-- dimension k of the entry has that letter
unfoldable pub has_letter : List ℕ → ℕ → ℕ → ℕ → Bool
has_letter bs e x k = eqb (letter bs (dimension_place e k)) x

-- a letter stands twice: in dimension j and in one before it
unfoldable pub repeats : List ℕ → ℕ → ℕ → Bool
repeats bs e j = any_below j (has_letter bs e (letter bs (dimension_place e j)))

-- dimension j is Y, and X stands before it
unfoldable pub closes_plane : List ℕ → ℕ → ℕ → Bool
closes_plane bs e j = cond (has_letter bs e 89 j) (any_below j (has_letter bs e 88)) false

-- ---- layers: several focal planes in one sub-block (paper 02, Req 10)

-- dimension k has layers: it is not X or Y, and its Size is 2 or more. (A negative one is too, as the number of its bits; `otherSizeBad` refuses it.)
unfoldable pub has_layers : List ℕ → ℕ → ℕ → Bool
has_layers bs e k = cond (is_plane (letter bs (dimension_place e k))) false (ltb 1 (size bs (dimension_place e k)))

-- dimension j has layers, and so has one before it, or Y (89) does not stand before it: entry order is storage order
unfoldable pub layers_bad : List ℕ → ℕ → ℕ → Bool
layers_bad bs e j =
    cond (has_layers bs e j)
    (any_of (any_below j (has_layers bs e) ∷ not (any_below j (has_letter bs e 89)) ∷ []))
    false

-- all of them: each by itself, no letter twice, X and then Y, one with layers at most
unfoldable pub dimensions_bad : List ℕ → ℕ → Bool
dimensions_bad bs e =
    any_of
    (any_below (dimension_count bs e) (λ k. dimension_bad bs (dimension_place e k)) ∷
    any_below (dimension_count bs e) (repeats bs e) ∷
    not (any_below (dimension_count bs e) (closes_plane bs e)) ∷
    any_below (dimension_count bs e) (layers_bad bs e) ∷
    [])

-- ---- the dimension of a letter

-- its number in the entry; DimensionCount where the entry lacks it
unfoldable pub letter_index : List ℕ → ℕ → ℕ → ℕ
letter_index bs e x = least_below (dimension_count bs e) (has_letter bs e x)

-- its place
unfoldable pub letter_place : List ℕ → ℕ → ℕ → ℕ
letter_place bs e x = dimension_place e (letter_index bs e x)

-- a pyramid tile: stored X or stored Y is not Size
unfoldable pub is_pyramid : List ℕ → ℕ → Bool
is_pyramid bs e =
    any_of
    (not (eqb (stored bs (letter_place bs e 88)) (size bs (letter_place bs e 88))) ∷
    not (eqb (stored bs (letter_place bs e 89)) (size bs (letter_place bs e 89))) ∷
    [])

-- ---- the dimension with layers

-- some dimension has layers: in an entry that is not refused it is one, and neither M nor S
unfoldable pub is_layered : List ℕ → ℕ → Bool
is_layered bs e = any_below (dimension_count bs e) (has_layers bs e)

-- the number of the dimension with layers; DimensionCount where there is none
unfoldable pub layers_index : List ℕ → ℕ → ℕ
layers_index bs e = least_below (dimension_count bs e) (has_layers bs e)

-- its place
unfoldable pub layers_place : List ℕ → ℕ → ℕ
layers_place bs e = dimension_place e (layers_index bs e)

-- how many layers there are; 1 where no dimension has several
unfoldable pub layer_count : List ℕ → ℕ → ℕ
layer_count bs e = cond (is_layered bs e) (size bs (layers_place bs e)) 1

-- ---- bytes a pixel by type; 0 where the type is not listed

unfoldable pub pixel_bytes : ℕ → ℕ
pixel_bytes t =
    cond (eqb t 0) 1
    (cond (eqb t 1) 2
    (cond (eqb t 2) 4
    (cond (eqb t 3) 3
    (cond (eqb t 4) 6
    (cond (eqb t 8) 12
    (cond (eqb t 9) 4
    (cond (eqb t 10) 8
    (cond (eqb t 11) 24 0))))))))
