-- The sub-block directory: the refusals of the directory and of each of its entries, in their order.
use Rattle.std.specs.Prelude.{ℕ, zero, suc, ◌+◌, List, [], ◌∷◌, ◌++◌, Bool, false, cond, not, eqb, ltb}
use Rattle.format.specs.Bytes.{u32_at, any_of, negative32}
use Rattle.format.specs.Names.{name_sub_block}
use Rattle.format.specs.Checks.{Check, row, rows_below}
use Rattle.format.specs.Scan.{Scan, block_file}
use Rattle.format.specs.Segments.{room, walked_as}
use Rattle.format.specs.File.{directory_position}
use Rattle.format.specs.Entry.{pixel_type, pixel_bytes, file_position, entry_part, compression, next_entry, head_bad, dimensions_bad}
use Rattle.format.specs.SubBlock.{attachment_size, sub_block_bad, contents_bad, attachment_place}
use Rattle.format.specs.Masks.{chunks_rows, has_chunks}
use Rattle.format.specs.declared.Release.{Release}
use Rattle.format.specs.declared.Fault.TheVariants as Fault

-- ---- EntryCount Int 0, entries from 128, one after the other

unfoldable pub entry_count : List ℕ → ℕ → ℕ
entry_count bs d = u32_at bs (d + 32)

-- the place behind the room of the segment at d
unfoldable pub room_end : List ℕ → ℕ → ℕ
room_end bs d = d + 32 + room bs d

-- how many tiles there are: the entries of the directory that the file segment names
unfoldable pub tile_count : List ℕ → ℕ
tile_count bs = entry_count bs (directory_position bs)

-- the place of entry k, counted from 0
unfoldable pub entry_place : List ℕ → ℕ → ℕ
entry_place bs zero = directory_position bs + 160
entry_place bs (suc k) = next_entry bs (entry_place bs k)

-- refusal 10: the fixed part (128) doesn't fit; EntryCount negative or over 4,096
unfoldable pub directory_bad : List ℕ → ℕ → Bool
directory_bad bs d =
    any_of
    (ltb (room bs d) 128 ∷
    negative32 (entry_count bs d) ∷
    ltb 4096 (entry_count bs d) ∷
    [])

-- ---- an entry: 10 for its first 32 bytes, 11 for mark and count, 10 for the rest, 11, 12, 13, 7, 14, 15, 16, then chunks in order

unfoldable pub head_rows : List ℕ → ℕ → ℕ → List Check
head_rows bs d e =
    row Fault.Directory d (ltb (room_end bs d) (e + 32)) ∷
    row Fault.Entry e (head_bad bs e) ∷
    row Fault.Directory d (ltb (room_end bs d) (next_entry bs e)) ∷
    []

-- the entry stands at e of the file ds, its sub-block in the file bs
unfoldable pub tile_rows : List ℕ → ℕ → List ℕ → List Check
tile_rows ds e bs =
    row Fault.Entry e (dimensions_bad ds e) ∷
    row Fault.PixelType e (eqb (pixel_bytes (pixel_type ds e)) 0) ∷
    row Fault.Compression e (not (eqb (compression ds e) 0)) ∷
    row Fault.FilePart e (not (eqb (entry_part ds e) 0)) ∷
    row Fault.NamedSegment e (not (walked_as bs (file_position ds e) name_sub_block)) ∷
    []

unfoldable pub sub_block_rows : List ℕ → ℕ → List ℕ → ℕ → List Check
sub_block_rows ds e bs q =
    row Fault.Copy q (sub_block_bad ds e bs q) ∷
    row Fault.Sizes q (contents_bad ds e bs q) ∷
    []

-- the attachment's chunks, where it is a chunk container
unfoldable pub attachment_rows : List ℕ → ℕ → List ℕ → ℕ → Release → List Check
attachment_rows ds e bs q r =
    cond (has_chunks ds e bs q r)
    (chunks_rows (attachment_size bs q) bs (attachment_place ds e bs q + attachment_size bs q) false (attachment_place ds e bs q))
    []

unfoldable pub entry_rows : Scan → ℕ → ℕ → List Check
entry_rows sc d e =
    head_rows sc.file d e ++
    (tile_rows sc.file e (block_file sc e) ++
    (sub_block_rows sc.file e (block_file sc e) (file_position sc.file e) ++
    attachment_rows sc.file e (block_file sc e) (file_position sc.file e) sc.release))

unfoldable pub directory_rows : Scan → List Check
directory_rows sc =
    row Fault.Directory (directory_position sc.file) (directory_bad sc.file (directory_position sc.file)) ∷
    rows_below (tile_count sc.file) (λ k. entry_rows sc (directory_position sc.file) (entry_place sc.file k))
