-- The chunk container and the valid-pixel mask: chunks, the refusals 17 and 18, and which pixels are valid.
-- A chunk is given by the file offset of its header; `end` is the file offset behind the attachment.
use Rattle.std.specs.Prelude.{ℕ, zero, suc, ◌+◌, ◌-◌, ◌*◌, ◌/◌, ◌%◌, ◌^◌, List, [], ◌∷◌, ◌++◌, Bool, false, cond, not, ◌||◌, get_or, eqb, ltb, Option, Some, None}
use Rattle.format.specs.Bytes.{u32_at, same_at, any_of, negative32}
use Rattle.format.specs.Names.{mask_guid}
use Rattle.format.specs.Container.{is_container}
use Rattle.format.specs.Checks.{Check, row}
use Rattle.format.specs.SubBlock.{metadata_size, metadata_place}
use Rattle.format.specs.declared.Release.{Release}
use Rattle.format.specs.declared.Release.TheVariants.{R102, R12}
use Rattle.format.specs.declared.MaskShape.{MaskShape}
use Rattle.format.specs.declared.Fault.TheVariants as Fault
use Rattle.format.specs.declared.Chunk.{Chunk}
use Rattle.format.specs.declared.TileMask.{TileMask}

-- ---- under 1.2 the attachment is a chunk container when the sub-block's metadata declare one; under 1.02 every attachment is plain bytes

-- the attachment of the sub-block at q of the file bs, its entry at e of the file ds, is a chunk container. Rows and masks
-- depend on the release through this alone
unfoldable pub has_chunks : List ℕ → ℕ → List ℕ → ℕ → Release → Bool
has_chunks ds e bs q R102 = false
has_chunks ds e bs q R12 = is_container bs (metadata_place ds e q) (metadata_size bs q)

-- ---- a chunk: GUID (16), size Int at 16, payload from 20; the next follows at once

unfoldable pub chunk_size : List ℕ → ℕ → ℕ
chunk_size bs c = u32_at bs (c + 16)

unfoldable pub next_chunk : List ℕ → ℕ → ℕ
next_chunk bs c = c + 20 + chunk_size bs c

-- refusal 17: the header doesn't fit, the size is negative, the payload doesn't fit
unfoldable pub chunk_bad : List ℕ → ℕ → ℕ → Bool
chunk_bad bs end c =
    any_of
    (ltb end (c + 20) ∷
    negative32 (chunk_size bs c) ∷
    ltb end (next_chunk bs c) ∷
    [])

-- a mask, or of some other kind
unfoldable pub is_mask : List ℕ → ℕ → Bool
is_mask bs c = same_at bs c mask_guid

-- ---- a mask's payload: width Int 0, height Int 4, representation Int 8, stride Int 12, lines from 16

unfoldable pub mask_width : List ℕ → ℕ → ℕ
mask_width bs c = u32_at bs (c + 20)

unfoldable pub mask_height : List ℕ → ℕ → ℕ
mask_height bs c = u32_at bs (c + 24)

unfoldable pub representation : List ℕ → ℕ → ℕ
representation bs c = u32_at bs (c + 28)

unfoldable pub mask_stride : List ℕ → ℕ → ℕ
mask_stride bs c = u32_at bs (c + 32)

-- refusal 18, by itself: the four fields don't fit, one is negative, representation not 0, stride × 8 under width, the lines don't fit
unfoldable pub mask_bad : List ℕ → ℕ → Bool
mask_bad bs c =
    any_of
    (ltb (chunk_size bs c) 16 ∷
    negative32 (mask_width bs c) ∷
    negative32 (mask_height bs c) ∷
    not (eqb (representation bs c) 0) ∷
    negative32 (mask_stride bs c) ∷
    ltb (mask_stride bs c * 8) (mask_width bs c) ∷
    ltb (chunk_size bs c) (16 + mask_stride bs c * mask_height bs c) ∷
    [])

-- refusal 18: a mask that is not as above, or a second one
unfoldable pub mask_refused : List ℕ → Bool → ℕ → Bool
mask_refused bs seen c = cond (is_mask bs c) (any_of (seen ∷ mask_bad bs c ∷ [])) false

-- ---- chunks fill the attachment exactly

unfoldable pub chunk_rows : List ℕ → ℕ → Bool → ℕ → List Check
chunk_rows bs end seen c =
    row Fault.Chunk c (chunk_bad bs end c) ∷
    row Fault.Mask c (mask_refused bs seen c) ∷
    []

-- the chunks from c on, of which there are at most n; `seen`: there was a mask before
unfoldable pub chunks_rows : ℕ → List ℕ → ℕ → Bool → ℕ → List Check
chunks_rows zero bs end seen c = []
chunks_rows (suc n) bs end seen c =
    cond (ltb c end)
    (chunk_rows bs end seen c ++ chunks_rows n bs end (seen || is_mask bs c) (next_chunk bs c))
    []

-- ---- what is handed out

unfoldable pub mask_shape : List ℕ → ℕ → MaskShape
mask_shape bs c = record { width = mask_width bs c; height = mask_height bs c; stride = mask_stride bs c }

unfoldable pub chunk_at : List ℕ → ℕ → Chunk
chunk_at bs c = record { place = c; length = chunk_size bs c; mask = cond (is_mask bs c) (Some (mask_shape bs c)) None }

-- the mask among the chunks from c on, of which there are at most n
unfoldable pub mask_from : ℕ → List ℕ → ℕ → ℕ → Option TileMask
mask_from zero bs end c = None
mask_from (suc n) bs end c =
    cond (ltb c end)
    (cond (is_mask bs c) (Some (record { place = c; shape = mask_shape bs c })) (mask_from n bs end (next_chunk bs c)))
    None

-- ---- pixel (x, y) is valid when x < width, y < height, and bit 7 − (x mod 8) of byte 16 + y × stride + x div 8 is one

unfoldable pub mask_byte : ℕ → ℕ → ℕ → ℕ → ℕ
mask_byte c stride x y = c + 20 + 16 + y * stride + x / 8

unfoldable pub mask_valid : List ℕ → ℕ → ℕ → ℕ → Bool
mask_valid bs c x y =
    cond (ltb x (mask_width bs c))
    (cond (ltb y (mask_height bs c))
    (eqb (get_or bs (mask_byte c (mask_stride bs c) x y) 0 / 2 ^ (7 - x % 8) % 2) 1)
    false)
    false
