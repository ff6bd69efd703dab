-- A sub-block: its fixed part, its copy of the entry, the refusals 15 and 16, and where its three parts lie.
-- The entry stands at e of the file ds, the sub-block at q of the file bs.
use Rattle.std.specs.Prelude.{ℕ, ◌+◌, ◌*◌, max, List, [], ◌∷◌, Bool, not, eqb, ltb}
use Rattle.format.specs.Bytes.{u32_at, u64_at, same_range, any_of, negative32, negative64}
use Rattle.format.specs.Segments.{room}
use Rattle.format.specs.Entry.{pixel_type, pixel_bytes, dimension_count, letter_place, stored, layer_count}

-- ---- MetadataSize Int 0, AttachmentSize Int 4, DataSize Long 8, the copy of the entry at 16, from the end of the header

unfoldable pub metadata_size : List ℕ → ℕ → ℕ
metadata_size bs q = u32_at bs (q + 32)

unfoldable pub attachment_size : List ℕ → ℕ → ℕ
attachment_size bs q = u32_at bs (q + 36)

unfoldable pub data_size : List ℕ → ℕ → ℕ
data_size bs q = u64_at bs (q + 40)

-- F = max(256, 48 + 20 × DimensionCount)
unfoldable pub fixed_part : ℕ → ℕ
fixed_part n = max 256 (48 + 20 * n)

-- ---- refusal 15: the fixed part doesn't fit the room, or the copy differs in a byte other than 23 to 27

unfoldable pub copy_bad : List ℕ → ℕ → List ℕ → ℕ → Bool
copy_bad ds e bs q =
    any_of
    (not (same_range 23 ds e bs (q + 48)) ∷
    not (same_range (4 + 20 * dimension_count ds e) ds (e + 28) bs (q + 76)) ∷
    [])

unfoldable pub sub_block_bad : List ℕ → ℕ → List ℕ → ℕ → Bool
sub_block_bad ds e bs q =
    any_of
    (ltb (room bs q) (fixed_part (dimension_count ds e)) ∷
    copy_bad ds e bs q ∷
    [])

-- ---- refusal 16: sizes negative, don't fit, or DataSize wrong

-- the bytes of one layer, which is the whole where there are no layers: stored X × stored Y × bytes a pixel, as a whole number
unfoldable pub layer_size : List ℕ → ℕ → ℕ
layer_size ds e = stored ds (letter_place ds e 88) * stored ds (letter_place ds e 89) * pixel_bytes (pixel_type ds e)

-- those of all layers: DataSize takes the extra factor
unfoldable pub pixels_size : List ℕ → ℕ → ℕ
pixels_size ds e = layer_count ds e * layer_size ds e

unfoldable pub contents_bad : List ℕ → ℕ → List ℕ → ℕ → Bool
contents_bad ds e bs q =
    any_of
    (negative32 (metadata_size bs q) ∷
    negative32 (attachment_size bs q) ∷
    negative64 (data_size bs q) ∷
    ltb (room bs q) (fixed_part (dimension_count ds e) + metadata_size bs q + data_size bs q + attachment_size bs q) ∷
    not (eqb (data_size bs q) (pixels_size ds e)) ∷
    [])

-- ---- from F: metadata, pixels, attachment, with no gap

unfoldable pub metadata_place : List ℕ → ℕ → ℕ → ℕ
metadata_place ds e q = q + 32 + fixed_part (dimension_count ds e)

unfoldable pub pixels_place : List ℕ → ℕ → List ℕ → ℕ → ℕ
pixels_place ds e bs q = metadata_place ds e q + metadata_size bs q

-- where the pixels of layer l, counted from 0, begin: the layers follow one another
unfoldable pub layer_pixels_place : List ℕ → ℕ → List ℕ → ℕ → ℕ → ℕ
layer_pixels_place ds e bs q l = pixels_place ds e bs q + l * layer_size ds e

unfoldable pub attachment_place : List ℕ → ℕ → List ℕ → ℕ → ℕ
attachment_place ds e bs q = pixels_place ds e bs q + data_size bs q
