-- The worked cases of paper 01 ("Near each edge") and those of a release, one list under one claim: each answer of the rules is the right one.
use Rattle.std.specs.Prelude.{ℕ, zero, suc, ◌+◌, ◌%◌, ◌/◌, refl, List, [], ◌∷◌, ◌++◌, Bool, true, false, length, replicate, take, drop, ℤ, pos, negsuc}
use Rattle.std.proofs.Math.Option.{Option-elim}
use Rattle.format.specs.Scan.{scan_of}
use Rattle.format.specs.Bytes.{any_of, any_below, all_below, least_below, u32_at, u64_at, biased, same_at, same_range, part_of}
use Rattle.format.specs.Names.{name_file, name_directory, name_sub_block, name_metadata, name_attachment, name_attachment_directory, name_deleted, mark_tile, tag_metadata, tag_schema, tag_format, text_container, mask_guid}
use Rattle.format.specs.Checks.{Verdict, Accepted, Refused, rows_below}
use Rattle.format.specs.Segments.{allocated_size, used_size, room, next_segment, length_bad, name_bad, allocated_bad, used_bad, end_bad, sizes_bad, role_bad, segment_rows, walk_rows, walked_from, walked, segments_rows, member, walked_as}
use Rattle.format.specs.File.{major, file_part, directory_position, metadata_position, update_pending, attachment_directory_position, names_none, names_none_but0, file_rows}
use Rattle.format.specs.Entry.{pixel_type, file_position, entry_part, compression, dimension_count, letter, start, size, stored_field, stored, next_entry, head_bad, letter_bad, too_far, is_plane, most_size, plane_size_bad, other_size_bad, size_bad, dimension_bad, has_letter, repeats, closes_plane, has_layers, layers_bad, dimensions_bad, letter_index, letter_place, is_layered, layers_index, layers_place, layer_count, pixel_bytes}
use Rattle.format.specs.SubBlock.{metadata_size, attachment_size, data_size, fixed_part, copy_bad, sub_block_bad, layer_size, pixels_size, contents_bad, metadata_place, pixels_place, layer_pixels_place, attachment_place}
use Rattle.format.specs.Choice.{asked_start, asked_layer}
use Rattle.format.specs.Markup.{white, name_byte, text_byte, quote, begins_name, opener, closer, front, behind, begins, behind_first, quote_after, behind_tag}
use Rattle.format.specs.Markup.{tag_at, closed, end_tag_at, skip_at, mark_at, item_at, or_none, one_more, read_from, reads_as}
use Rattle.format.specs.Container.{same_bytes, in_section, start_stage, text_stage, ends_well, declares, is_container}
use Rattle.format.specs.Masks.{has_chunks, chunk_size, next_chunk, chunk_bad, is_mask, mask_bad, mask_refused, mask_width, mask_height, mask_stride, representation, chunk_rows, chunks_rows, mask_byte, mask_valid}
use Rattle.format.specs.Directory.{entry_count, room_end, tile_count, entry_place, directory_bad, head_rows, tile_rows, sub_block_rows, attachment_rows, entry_rows, directory_rows}
use Rattle.format.specs.Attachments.{metadata_rows, attachments_rows}
use Rattle.format.specs.Rules.{checks, verdict}
use Rattle.format.specs.declared.Release.{Release}
use Rattle.format.specs.declared.Release.TheVariants.{R102, R12}
use Rattle.format.specs.Entry.{is_pyramid}
use Rattle.format.specs.Records.{mask_of}
use Rattle.format.specs.Masks.{mask_from, mask_shape}
use Rattle.plane.specs.Sums.{sum, tab}
use Rattle.plane.specs.Paint.{bit_in, bit, pack, paint, mark, clear}
use Rattle.plane.specs.Turns.{Kind, plain, quick, turn, run, below, insert, bottom_first}
use Rattle.plane.specs.Turns as Turns
use Rattle.plane.specs.Tiles.{covers}
use Rattle.selection.specs.Select.{tile_start, free, start_count, has_start, selects}
use Rattle.tiles.specs.FileTile.{rank_of, rectangle, meets, entry_tile, file_tile, tiles_below}
use Rattle.question.specs.Question.{window_bad, pixel_bad, lent_bad, ask_rows, type_bad, agree_rows}
use Rattle.question.specs.Call.{Asked, call_verdict, selected, target_after, map_after}
use Rattle.question.specs.declared.Masks.{Masks}
use Rattle.question.specs.declared.Masks.TheVariants.{NotChosen, On, Off}
use Rattle.format.specs.declared.Fault.TheVariants as Fault
use Rattle.cases.specs.Right.{AllRight}

-- ---- the files of the cases

-- the n bytes of x, little-endian
unfoldable pub little : ℕ → ℕ → List ℕ
little zero x = []
little (suc n) x = x % 256 ∷ little n (x / 256)

-- a segment of that name and AllocatedSize, with UsedSize 0, whose contents begin so and go on with zero bytes
unfoldable pub segment : List ℕ → ℕ → List ℕ → List ℕ
segment name allocated contents = take (32 + allocated) (name ++ little 8 allocated ++ little 8 0 ++ contents ++ replicate allocated 0)

-- the file segment, allocated 96, that names the directory at 128 and nothing else
unfoldable pub file_segment : List ℕ
file_segment = segment name_file 96 (little 4 1 ++ replicate 48 0 ++ little 8 128)

-- 288 bytes: the file segment and an empty directory at 128 allocated 128
unfoldable pub file288 : List ℕ
file288 = file_segment ++ segment name_directory 128 []

-- a dimension of that letter, Start 0, Size 1, StoredSize 0
unfoldable pub dimension1 : ℕ → List ℕ
dimension1 x = little 4 x ++ little 4 0 ++ little 4 1 ++ little 4 0 ++ little 4 0

-- an entry of one Gray8 pixel whose sub-block is at 384
unfoldable pub entry1 : List ℕ
entry1 = mark_tile ++ little 4 0 ++ little 8 384 ++ little 4 0 ++ little 4 0 ++ replicate 6 0 ++ little 4 2 ++ dimension1 88 ++ dimension1 89

-- an element with these bytes in it: its start tag, them, and its end tag
unfoldable pub element : List ℕ → List ℕ → List ℕ
element name inner = 60 ∷ name ++ (62 ∷ inner ++ (60 ∷ 47 ∷ name ++ (62 ∷ [])))

-- 97 bytes: metadata that are the container's section alone
unfoldable pub container_section : List ℕ
container_section = element tag_metadata (element tag_schema (element tag_format text_container))

-- 800 bytes: one tile of one pixel, its attachment of 19 bytes marked as a container
unfoldable pub file19 : List ℕ
file19 =
    file_segment ++
    (segment name_directory 224 (little 4 1 ++ replicate 124 0 ++ entry1) ++
    segment name_sub_block 384 (little 4 97 ++ little 4 19 ++ little 8 1 ++ entry1 ++ replicate 168 0 ++ container_section))

-- a mask chunk of one line: width, height 1, that stride, and the line
unfoldable pub mask1 : ℕ → ℕ → List ℕ → List ℕ
mask1 width stride line = mask_guid ++ little 4 (16 + stride) ++ little 4 width ++ little 4 1 ++ little 4 0 ++ little 4 stride ++ line

-- a dimension of that letter, Start and Size
unfoldable pub dimension_of : ℕ → ℕ → ℕ → List ℕ
dimension_of x from size = little 4 x ++ little 4 from ++ little 4 size ++ little 4 0 ++ little 4 0

-- an entry of a Gray8 tile with these dimensions, n of them, whose sub-block is at q
unfoldable pub entry_of : ℕ → ℕ → List ℕ → List ℕ
entry_of q n dimensions = mark_tile ++ little 4 0 ++ little 8 q ++ little 4 0 ++ little 4 0 ++ replicate 6 0 ++ little 4 n ++ dimensions

-- one tile of one pixel, at 448, its attachment of 19 bytes marked as a container, and behind it an entry, at 360, that says that it is compressed
unfoldable pub file_broken : List ℕ
file_broken =
    let e = entry_of 448 2 (dimension1 88 ++ dimension1 89) in
    file_segment ++
    (segment name_directory 288 (little 4 2 ++ replicate 124 0 ++ e ++ (take 18 e ++ little 4 1 ++ drop 22 e)) ++
    segment name_sub_block 384 (little 4 97 ++ little 4 19 ++ little 8 1 ++ e ++ replicate 168 0 ++ container_section))

-- its sub-block, allocated 288, with these pixels
unfoldable pub block_of : List ℕ → List ℕ → List ℕ
block_of entry pixels = segment name_sub_block 288 (take 256 (little 4 0 ++ little 4 0 ++ little 8 (length pixels) ++ entry ++ replicate 256 0) ++ pixels)

-- one tile, left −4, width 8, of the pixels 10 to 17: the sub-block is at 384
unfoldable pub wide8 : List ℕ
wide8 = entry_of 384 2 (dimension_of 88 4294967292 8 ++ dimension_of 89 0 1)

unfoldable pub file_wide : List ℕ
file_wide =
    file_segment ++
    (segment name_directory 224 (little 4 1 ++ replicate 124 0 ++ wide8) ++
    block_of wide8 (10 ∷ 11 ∷ 12 ∷ 13 ∷ 14 ∷ 15 ∷ 16 ∷ 17 ∷ []))

-- one tile at (0, 0), width 5, of the pixels 10 to 14, whose sub-block at 384 is marked as a container and has that mask chunk
unfoldable pub masked5 : List ℕ
masked5 = entry_of 384 2 (dimension_of 88 0 5 ++ dimension_of 89 0 1)

unfoldable pub file_masked : List ℕ → List ℕ
file_masked mask =
    file_segment ++
    (segment name_directory 224 (little 4 1 ++ replicate 124 0 ++ masked5) ++
    segment name_sub_block 416
    (take 256 (little 4 97 ++ little 4 (length mask) ++ little 8 5 ++ masked5 ++ replicate 256 0) ++
    (container_section ++ ((10 ∷ 11 ∷ 12 ∷ 13 ∷ 14 ∷ []) ++ mask))))

-- two tiles of one pixel at (0, 0), 7 and then 9, the sub-blocks at 512 and 832: of these dimensions besides X and Y
unfoldable pub file_two : ℕ → List ℕ → ℕ → List ℕ → List ℕ
file_two n one m two =
    let e = entry_of 512 n (dimension_of 88 0 1 ++ dimension_of 89 0 1 ++ one) in
    let f = entry_of 832 m (dimension_of 88 0 1 ++ dimension_of 89 0 1 ++ two) in
    file_segment ++
    (segment name_directory 352 (little 4 2 ++ replicate 124 0 ++ e ++ f) ++
    (block_of e (7 ∷ []) ++
    block_of f (9 ∷ [])))

-- ---- questions, and what the rules answer

-- a question with no start, background 1, for a Gray8 window of one row, by that masks choice, under that release
unfoldable pub row_at : Masks → Release → List ℕ → ℤ → ℕ → Asked
row_at masks release file left width = record {
  scan = scan_of file release;
  starts = [];
  any_scene = false;
  request = record { pixel_type = 0; left = left; top = pos 0; width = width; height = 1; masks = masks };
  background = 1 ∷ [];
}

pub data Question : Type 0 where
  judge : Release → List ℕ → Question
  fixed : ℕ → Question
  valid : List ℕ → ℕ → ℕ → Question
  -- target and map of a window of one row in the file, by either composer
  plane : Kind → Masks → Release → List ℕ → ℤ → ℕ → Question
  -- the verdict on that question, over a target and a map with room
  ask : List ℕ → ℤ → ℕ → Question

pub data Answer : Type 0 where
  verdict-is : Verdict → Answer
  number : ℕ → Answer
  flag : Bool → Answer
  painted : List ℕ → List ℕ → Answer

abbrev pub answer : Question → Answer
answer (judge release bs) = verdict-is (verdict (scan_of bs release))
answer (fixed n) = number (fixed_part n)
answer (valid mask x y) = flag (mask_valid mask 0 x y)
answer (plane k masks release file left width) =
    let a = row_at masks release file left width in
    painted (target_after k a (replicate width 0) (0 ∷ [])) (map_after k a (replicate width 0) (0 ∷ []))
answer (ask file left width) = verdict-is (call_verdict (row_at NotChosen R12 file left width) width 1)

pub record Case : Type 0 where
  pub question : Question
  pub right : Answer

abbrev pub case : Question → Answer → Case
case q a = record { question = q; right = a }

abbrev pub cases : List Case
cases =
    -- P1 the 288-byte file accepted
    case (judge R12 file288) (verdict-is Accepted) ∷
    -- P2 the same cut to 256: refused 3 at 128
    case (judge R12 (take 256 file288)) (verdict-is (Refused Fault.SegmentSizes 128)) ∷
    -- P3 empty: 1
    case (judge R12 []) (verdict-is (Refused Fault.Length 0)) ∷
    -- P4 10 dimensions: F 256
    case (fixed 10) (number 256) ∷
    -- P5 11: F 268
    case (fixed 11) (number 268) ∷
    -- P6 tile left −4, width 8, window left −2, width 4: tile columns 2 to 5
    case (plane plain NotChosen R12 file_wide (negsuc 1) 4) (painted (12 ∷ 13 ∷ 14 ∷ 15 ∷ []) (0xf0 ∷ [])) ∷
    case (plane quick NotChosen R12 file_wide (negsuc 1) 4) (painted (12 ∷ 13 ∷ 14 ∷ 15 ∷ []) (0xf0 ∷ [])) ∷
    -- P7 mask byte 80 hex, width 10, stride 2: x = 0 valid, 1 not
    case (valid (mask1 10 2 (0x80 ∷ 0 ∷ [])) 0 0) (flag true) ∷
    case (valid (mask1 10 2 (0x80 ∷ 0 ∷ [])) 1 0) (flag false) ∷
    -- the same mask on a tile 5 wide, masks on: its first pixel alone
    case (plane plain On R12 (file_masked (mask1 10 2 (0x80 ∷ 0 ∷ []))) (pos 0) 5) (painted (10 ∷ 1 ∷ 1 ∷ 1 ∷ 1 ∷ []) (0x80 ∷ [])) ∷
    case (plane quick On R12 (file_masked (mask1 10 2 (0x80 ∷ 0 ∷ []))) (pos 0) 5) (painted (10 ∷ 1 ∷ 1 ∷ 1 ∷ 1 ∷ []) (0x80 ∷ [])) ∷
    -- P8 mask width 3 on a tile 5 wide: x = 3 invalid, though its bit is one; masks on, pixel 3 is background and its map bit 0
    case (valid (mask1 3 1 (0xff ∷ [])) 3 0) (flag false) ∷
    case (plane plain On R12 (file_masked (mask1 3 1 (0xff ∷ []))) (pos 0) 5) (painted (10 ∷ 11 ∷ 12 ∷ 1 ∷ 1 ∷ []) (0xe0 ∷ [])) ∷
    case (plane quick On R12 (file_masked (mask1 3 1 (0xff ∷ []))) (pos 0) 5) (painted (10 ∷ 11 ∷ 12 ∷ 1 ∷ 1 ∷ []) (0xe0 ∷ [])) ∷
    -- the same tile, masks off: all its pixels
    case (plane quick Off R12 (file_masked (mask1 3 1 (0xff ∷ []))) (pos 0) 5) (painted (10 ∷ 11 ∷ 12 ∷ 13 ∷ 14 ∷ []) (0xf8 ∷ [])) ∷
    -- P9 M −1 lies over no M, though the tile without M is the later entry
    case (plane plain NotChosen R12 (file_two 3 (dimension_of 77 4294967295 1) 2 []) (pos 0) 1) (painted (7 ∷ []) (0x80 ∷ [])) ∷
    case (plane quick NotChosen R12 (file_two 3 (dimension_of 77 4294967295 1) 2 []) (pos 0) 1) (painted (7 ∷ []) (0x80 ∷ [])) ∷
    -- P10 two tiles with M 4: the later entry
    case (plane plain NotChosen R12 (file_two 3 (dimension_of 77 4 1) 3 (dimension_of 77 4 1)) (pos 0) 1) (painted (9 ∷ []) (0x80 ∷ [])) ∷
    case (plane quick NotChosen R12 (file_two 3 (dimension_of 77 4 1) 3 (dimension_of 77 4 1)) (pos 0) 1) (painted (9 ∷ []) (0x80 ∷ [])) ∷
    -- P11 window left 2,147,483,647, width 1: refused 20
    case (ask file288 (pos 2147483647) 1) (verdict-is (Refused Fault.Window 0)) ∷
    -- P12 attachment of 19 bytes marked as container: 17
    case (judge R12 file19) (verdict-is (Refused Fault.Chunk 770)) ∷
    -- the same under 1.02: plain bytes
    case (judge R102 file19) (verdict-is Accepted) ∷
    -- a refusal behind such an attachment: 1.2 stops before it, 1.02 gives it
    case (judge R12 file_broken) (verdict-is (Refused Fault.Chunk 834)) ∷
    case (judge R102 file_broken) (verdict-is (Refused Fault.Compression 360)) ∷
    -- P8's tile under 1.02, masks on: all its pixels
    case (plane plain On R102 (file_masked (mask1 3 1 (0xff ∷ []))) (pos 0) 5) (painted (10 ∷ 11 ∷ 12 ∷ 13 ∷ 14 ∷ []) (0xf8 ∷ [])) ∷
    case (plane quick On R102 (file_masked (mask1 3 1 (0xff ∷ []))) (pos 0) 5) (painted (10 ∷ 11 ∷ 12 ∷ 13 ∷ 14 ∷ []) (0xf8 ∷ [])) ∷
    []

pub all_right : AllRight (λ (c : Case). answer c.question) (λ (c : Case). c.right) cases
unfolding little segment file_segment file288 dimension1 entry1 element container_section file19 file_broken mask1 dimension_of entry_of block_of wide8 file_wide masked5 file_masked file_two row_at sum tab bit_in bit pack paint mark clear turn run Turns.start below insert bottom_first asked_start asked_layer tile_start free start_count has_start selects rank_of rectangle covers meets entry_tile file_tile tiles_below window_bad pixel_bad lent_bad ask_rows type_bad agree_rows call_verdict selected target_after map_after is_pyramid mask_of mask_from mask_shape any_of any_below all_below least_below u32_at u64_at biased same_at same_range name_file name_directory name_sub_block name_metadata name_attachment name_attachment_directory name_deleted mark_tile tag_metadata tag_schema tag_format text_container mask_guid rows_below allocated_size used_size room next_segment length_bad name_bad allocated_bad used_bad end_bad sizes_bad role_bad segment_rows walk_rows walked_from walked segments_rows member walked_as major file_part directory_position metadata_position update_pending attachment_directory_position names_none names_none_but0 file_rows pixel_type file_position entry_part compression dimension_count letter start size stored_field stored next_entry head_bad letter_bad too_far is_plane most_size plane_size_bad other_size_bad size_bad dimension_bad has_letter repeats closes_plane has_layers layers_bad dimensions_bad letter_index letter_place is_layered layers_index layers_place layer_count pixel_bytes metadata_size attachment_size data_size fixed_part copy_bad sub_block_bad layer_size pixels_size contents_bad metadata_place pixels_place layer_pixels_place attachment_place white name_byte text_byte quote begins_name opener closer front behind begins behind_first quote_after behind_tag tag_at closed end_tag_at skip_at mark_at item_at or_none one_more read_from reads_as same_bytes in_section start_stage text_stage ends_well declares part_of Option-elim is_container has_chunks chunk_size next_chunk chunk_bad is_mask mask_bad mask_refused mask_width mask_height mask_stride representation chunk_rows chunks_rows mask_byte mask_valid entry_count room_end tile_count entry_place directory_bad head_rows tile_rows sub_block_rows attachment_rows entry_rows directory_rows metadata_rows attachments_rows checks verdict
all_right = refl
