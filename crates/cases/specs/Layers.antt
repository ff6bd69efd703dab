-- Worked cases of layers (paper 02, Req 10), one list under one claim: which entries may have them, the record and the view, and the plane of each layer.
use Rattle.std.specs.Prelude.{ℕ, ◌-◌, refl, List, [], ◌∷◌, ◌++◌, false, Option, Some, None, length, replicate, take, ℤ, pos}
use Rattle.std.proofs.Math.Option.{Option-elim}
use Rattle.format.specs.Scan.{scan_of}
use Rattle.format.specs.Bytes.{any_of, any_below, all_below, least_below, u32_at, u64_at, biased, signed32, same_at, same_range, part_of}
use Rattle.format.specs.Names.{name_file, name_directory, name_sub_block, name_metadata, name_attachment, name_attachment_directory, name_deleted, mark_tile, tag_metadata, tag_schema, tag_format, text_container, mask_guid}
use Rattle.format.specs.Checks.{Verdict, Accepted, Refused, rows_below}
use Rattle.format.specs.Segments.{allocated_size, used_size, room, next_segment, length_bad, name_bad, allocated_bad, used_bad, end_bad, sizes_bad, role_bad, segment_rows, walk_rows, walked_from, walked, segments_rows, member, walked_as}
use Rattle.format.specs.File.{major, file_part, directory_position, metadata_position, update_pending, attachment_directory_position, names_none, names_none_but0, file_rows}
use Rattle.format.specs.Entry.{pixel_type, file_position, entry_part, compression, dimension_count, letter, start, size, stored_field, stored, next_entry, head_bad, letter_bad, too_far, is_plane, most_size, plane_size_bad, other_size_bad, size_bad, dimension_bad, has_letter, repeats, closes_plane, has_layers, layers_bad, dimensions_bad, letter_index, letter_place, is_layered, layers_index, layers_place, layer_count, pixel_bytes}
use Rattle.format.specs.SubBlock.{metadata_size, attachment_size, data_size, fixed_part, copy_bad, sub_block_bad, layer_size, pixels_size, contents_bad, metadata_place, pixels_place, layer_pixels_place, attachment_place}
use Rattle.format.specs.Choice.{asked_start, asked_layer}
use Rattle.format.specs.Markup.{white, name_byte, text_byte, quote, begins_name, opener, closer, front, behind, begins, behind_first, quote_after, behind_tag}
use Rattle.format.specs.Markup.{tag_at, closed, end_tag_at, skip_at, mark_at, item_at, or_none, one_more, read_from, reads_as}
use Rattle.format.specs.Container.{same_bytes, in_section, start_stage, text_stage, ends_well, declares, is_container}
use Rattle.format.specs.Masks.{has_chunks, chunk_size, next_chunk, chunk_bad, is_mask, mask_bad, mask_refused, mask_width, mask_height, mask_stride, representation, chunk_rows, chunks_rows, mask_byte, mask_valid}
use Rattle.format.specs.Directory.{entry_count, room_end, tile_count, entry_place, directory_bad, head_rows, tile_rows, sub_block_rows, attachment_rows, entry_rows, directory_rows}
use Rattle.format.specs.Attachments.{metadata_rows, attachments_rows}
use Rattle.format.specs.Rules.{checks, verdict, tile_verdict}
use Rattle.format.specs.declared.Release.TheVariants.{R12}
use Rattle.format.specs.declared.Span.{Span}
use Rattle.format.specs.declared.Layers.{Layers}
use Rattle.format.specs.Entry.{is_pyramid}
use Rattle.format.specs.Records.{mask_of, layers_of, tile_at, tile_record, pixels_span, tile_pixels, span}
use Rattle.format.specs.Masks.{mask_from, mask_shape}
use Rattle.plane.specs.Sums.{sum, tab}
use Rattle.plane.specs.Paint.{bit_in, bit, pack, paint, mark, clear}
use Rattle.plane.specs.Turns.{Kind, plain, quick, turn, run, below, insert, bottom_first}
use Rattle.plane.specs.Turns as Turns
use Rattle.plane.specs.Tiles.{covers}
use Rattle.selection.specs.Select.{tile_start, free, start_count, has_start, selects}
use Rattle.tiles.specs.FileTile.{rank_of, rectangle, meets, entry_tile, file_tile, tiles_below}
use Rattle.question.specs.Question.{window_bad, pixel_bad, lent_bad, ask_rows, type_bad, agree_rows}
use Rattle.question.specs.Call.{Asked, call_verdict, selected, target_after, map_after}
use Rattle.question.specs.declared.Masks.{Masks}
use Rattle.question.specs.declared.Masks.TheVariants.{NotChosen, On}
use Rattle.cases.specs.Cases.{little, segment, file_segment, element, container_section, mask1, dimension_of}
use Rattle.format.specs.declared.Fault.TheVariants as Fault
use Rattle.cases.specs.Right.{AllRight}

-- ---- the files of the cases: one tile, its entry at 288, its sub-block at 448

-- a dimension of that letter, Start, Size and StoredSize
unfoldable pub stored_as : ℕ → ℕ → ℕ → ℕ → List ℕ
stored_as x from size stored = little 4 x ++ little 4 from ++ little 4 size ++ little 4 0 ++ little 4 stored

-- of that pixel type, with these dimensions, n of them; its sub-block of that AllocatedSize, that DataSize, and these three parts
unfoldable pub file_of : ℕ → ℕ → List ℕ → ℕ → ℕ → List ℕ → List ℕ → List ℕ → List ℕ
file_of type n dimensions allocated size metadata pixels attachment =
    let e = mark_tile ++ little 4 type ++ little 8 448 ++ little 4 0 ++ little 4 0 ++ replicate 6 0 ++ little 4 n ++ dimensions in
    file_segment ++
    (segment name_directory 288 (little 4 1 ++ replicate 124 0 ++ e) ++
    segment name_sub_block allocated
    (take 256 (little 4 (length metadata) ++ little 4 (length attachment) ++ little 8 size ++ e ++ replicate 256 0) ++ (metadata ++ (pixels ++ attachment))))

-- X of two columns from 0, and Y of one row at 0
unfoldable pub plane2 : List ℕ
plane2 = dimension_of 88 0 2 ++ dimension_of 89 0 1

-- three layers of two pixels: the tens tell the layer, the ones the column
unfoldable pub pixels6 : List ℕ
pixels6 = 10 ∷ 11 ∷ 20 ∷ 21 ∷ 30 ∷ 31 ∷ []

-- a Gray8 tile with these dimensions, n of them, and these pixels, 32 at most
unfoldable pub tile_of : ℕ → List ℕ → List ℕ → List ℕ
tile_of n dimensions pixels = file_of 0 n dimensions 288 (length pixels) [] pixels []

-- X and Y, and behind them that dimension, of three layers
unfoldable pub file_z : List ℕ → List ℕ
file_z dimension = tile_of 3 (plane2 ++ dimension) pixels6

-- three layers from Z = 5 on, and a mask by which the second column alone is valid
unfoldable pub masked_z : List ℕ
masked_z = file_of 0 3 (plane2 ++ dimension_of 90 5 3) 416 6 container_section pixels6 (mask1 2 1 (0x40 ∷ []))

-- a pyramid tile of four columns and two rows, of which two and one are stored, with three layers from Z = 5 on
unfoldable pub pyramid_z : List ℕ
pyramid_z = tile_of 3 (stored_as 88 0 4 2 ++ stored_as 89 0 2 1 ++ dimension_of 90 5 3) pixels6

-- ---- questions, and what the rules answer

-- a question with that start for the letter x, 0 for those before it and none for those behind; background 1; a Gray8 window of three columns and one row at (0, 0)
unfoldable pub asked_along : ℕ → Masks → List ℕ → ℤ → Asked
asked_along x masks file z = record {
  scan = scan_of file R12;
  starts = replicate (x - 65) (pos 0) ++ (z ∷ []);
  any_scene = false;
  request = record { pixel_type = 0; left = pos 0; top = pos 0; width = 3; height = 1; masks = masks };
  background = 1 ∷ [];
}

pub data Question : Type 0 where
  judge : List ℕ → Question
  -- the layers in the tile's record, and the tile's view
  layers_in : List ℕ → Question
  view_in : List ℕ → Question
  -- target and map of that window, by either composer, for a start of Z, or of that letter
  plane : Kind → Masks → List ℕ → ℤ → Question
  plane_along : ℕ → Kind → Masks → List ℕ → ℤ → Question

pub data Answer : Type 0 where
  verdict-is : Verdict → Answer
  layers-are : Option Layers → Answer
  view_is : Span → Answer
  painted : List ℕ → List ℕ → Answer

abbrev pub composed : Kind → Asked → Answer
composed k a = painted (target_after k a (replicate 3 0) (0 ∷ [])) (map_after k a (replicate 3 0) (0 ∷ []))

abbrev pub answer : Question → Answer
answer (judge file) = verdict-is (verdict (scan_of file R12))
answer (layers_in file) = layers-are (tile_record (scan_of file R12) 0).layers
answer (view_in file) = view_is (tile_pixels (scan_of file R12) 0)
answer (plane k masks file z) = composed k (asked_along 90 masks file z)
answer (plane_along x k masks file z) = composed k (asked_along x masks file z)

-- those answers in short: a letter, a start and a size; and the window with no pixel of the tile
abbrev pub has : ℕ → ℤ → ℕ → Answer
has x from n = layers-are (Some (record { letter = x; start = from; size = n }))

abbrev pub nothing : Answer
nothing = painted (1 ∷ 1 ∷ 1 ∷ []) (0 ∷ [])

pub record Case : Type 0 where
  pub question : Question
  pub right : Answer

abbrev pub case : Question → Answer → Case
case q a = record { question = q; right = a }

abbrev pub cases : List Case
cases =
    -- three layers from Z (90) = 5 on: the record has them, and the view covers all
    case (judge (file_z (dimension_of 90 5 3))) (verdict-is Accepted) ∷
    case (layers_in (file_z (dimension_of 90 5 3))) (has 90 (pos 5) 3) ∷
    case (view_in (file_z (dimension_of 90 5 3))) (view_is (span 736 6)) ∷
    -- Z = 4 and 8: not selected; 5: the first layer, 7 the last
    case (plane plain NotChosen (file_z (dimension_of 90 5 3)) (pos 4)) nothing ∷
    case (plane plain NotChosen (file_z (dimension_of 90 5 3)) (pos 5)) (painted (10 ∷ 11 ∷ 1 ∷ []) (0xc0 ∷ [])) ∷
    case (plane plain NotChosen (file_z (dimension_of 90 5 3)) (pos 7)) (painted (30 ∷ 31 ∷ 1 ∷ []) (0xc0 ∷ [])) ∷
    case (plane quick NotChosen (file_z (dimension_of 90 5 3)) (pos 7)) (painted (30 ∷ 31 ∷ 1 ∷ []) (0xc0 ∷ [])) ∷
    case (plane quick NotChosen (file_z (dimension_of 90 5 3)) (pos 8)) nothing ∷
    -- from −1 on: 0 is the second layer
    case (plane quick NotChosen (file_z (dimension_of 90 4294967295 3)) (pos 0)) (painted (20 ∷ 21 ∷ 1 ∷ []) (0xc0 ∷ [])) ∷
    -- along C (67), with nothing said of the letters behind it
    case (plane_along 67 quick NotChosen (file_z (dimension_of 67 5 3)) (pos 6)) (painted (20 ∷ 21 ∷ 1 ∷ []) (0xc0 ∷ [])) ∷
    -- two rows, six bytes a pixel and two layers
    case (judge (file_of 4 3 (dimension_of 88 0 1 ++ dimension_of 89 0 2 ++ dimension_of 67 5 2) 288 24 [] (replicate 24 7) [])) (verdict-is Accepted) ∷
    -- Start + Size at 2,147,483,647: the last layer is there; and above it: 11
    case (plane quick NotChosen (file_z (dimension_of 90 2147483644 3)) (pos 2147483646)) (painted (30 ∷ 31 ∷ 1 ∷ []) (0xc0 ∷ [])) ∷
    case (judge (file_z (dimension_of 90 2147483645 3))) (verdict-is (Refused Fault.Entry 288)) ∷
    -- the letter before X, and between X and Y: 11
    case (judge (tile_of 3 (dimension_of 90 5 3 ++ plane2) pixels6)) (verdict-is (Refused Fault.Entry 288)) ∷
    case (judge (tile_of 3 (dimension_of 88 0 2 ++ dimension_of 90 5 3 ++ dimension_of 89 0 1) pixels6)) (verdict-is (Refused Fault.Entry 288)) ∷
    -- with T (84) of Size 1 before X, and M (77) between Y and Z
    case (judge (tile_of 5 (dimension_of 84 0 1 ++ plane2 ++ dimension_of 77 4 1 ++ dimension_of 90 5 3) pixels6)) (verdict-is Accepted) ∷
    -- two letters of Size 2; M and S (83) of Size 2: 11
    case (judge (tile_of 4 (plane2 ++ dimension_of 90 5 2 ++ dimension_of 84 0 2) (replicate 8 7))) (verdict-is (Refused Fault.Entry 288)) ∷
    case (judge (tile_of 3 (plane2 ++ dimension_of 77 0 2) (replicate 4 7))) (verdict-is (Refused Fault.Entry 288)) ∷
    case (judge (tile_of 3 (plane2 ++ dimension_of 83 0 2) (replicate 4 7))) (verdict-is (Refused Fault.Entry 288)) ∷
    -- StoredSize 2 for Size 3: 11; StoredSize 3 is as good as 0
    case (judge (file_z (stored_as 90 5 3 2))) (verdict-is (Refused Fault.Entry 288)) ∷
    case (judge (file_z (stored_as 90 5 3 3))) (verdict-is Accepted) ∷
    -- 1,024 layers of one pixel, and 1,025: 11; Size 0: 11
    case (judge (file_of 0 3 (dimension_of 88 0 1 ++ dimension_of 89 0 1 ++ dimension_of 90 0 1024) 1280 1024 [] (replicate 1024 7) [])) (verdict-is Accepted) ∷
    case (judge (file_of 0 3 (dimension_of 88 0 1 ++ dimension_of 89 0 1 ++ dimension_of 90 0 1025) 1312 1025 [] (replicate 1025 7) [])) (verdict-is (Refused Fault.Entry 288)) ∷
    case (judge (tile_of 3 (plane2 ++ dimension_of 90 5 0) [])) (verdict-is (Refused Fault.Entry 288)) ∷
    -- DataSize without the factor: 16
    case (judge (file_of 0 3 (plane2 ++ dimension_of 90 5 3) 288 2 [] pixels6 [])) (verdict-is (Refused Fault.Sizes 448)) ∷
    -- X and Y near 2 ^ 31, 24 bytes a pixel and 1,024 layers: 16, and so where the product is a multiple of 2 ^ 64
    case (judge (file_of 11 3 (dimension_of 88 0 2147483647 ++ dimension_of 89 0 2147483647 ++ dimension_of 90 0 1024) 288 0 [] [] [])) (verdict-is (Refused Fault.Sizes 448)) ∷
    case (judge (file_of 11 3 (dimension_of 88 0 2080374784 ++ dimension_of 89 0 2080374784 ++ dimension_of 90 0 1024) 288 0 [] [] [])) (verdict-is (Refused Fault.Sizes 448)) ∷
    -- the mask serves each layer
    case (plane plain On masked_z (pos 5)) (painted (1 ∷ 11 ∷ 1 ∷ []) (0x40 ∷ [])) ∷
    case (plane quick On masked_z (pos 7)) (painted (1 ∷ 31 ∷ 1 ∷ []) (0x40 ∷ [])) ∷
    -- a pyramid tile with layers: never selected
    case (judge pyramid_z) (verdict-is Accepted) ∷
    case (plane quick NotChosen pyramid_z (pos 5)) nothing ∷
    -- Size 1 is no layer: the record has none, and the tile is selected where it starts
    case (layers_in (tile_of 3 (plane2 ++ dimension_of 90 5 1) (10 ∷ 11 ∷ []))) (layers-are None) ∷
    case (plane quick NotChosen (tile_of 3 (plane2 ++ dimension_of 90 5 1) (10 ∷ 11 ∷ [])) (pos 5)) (painted (10 ∷ 11 ∷ 1 ∷ []) (0xc0 ∷ [])) ∷
    case (plane quick NotChosen (tile_of 3 (plane2 ++ dimension_of 90 5 1) (10 ∷ 11 ∷ [])) (pos 6)) nothing ∷
    []

pub all_right : AllRight (λ (c : Case). answer c.question) (λ (c : Case). c.right) cases
unfolding little segment file_segment element container_section mask1 dimension_of stored_as file_of plane2 pixels6 tile_of file_z masked_z pyramid_z asked_along sum tab bit_in bit pack paint mark clear turn run Turns.start below insert bottom_first asked_start asked_layer tile_start free start_count has_start selects rank_of rectangle covers meets entry_tile file_tile tiles_below window_bad pixel_bad lent_bad ask_rows type_bad agree_rows call_verdict selected target_after map_after is_pyramid mask_of mask_from mask_shape any_of any_below all_below least_below u32_at u64_at biased same_at same_range name_file name_directory name_sub_block name_metadata name_attachment name_attachment_directory name_deleted mark_tile tag_metadata tag_schema tag_format text_container mask_guid rows_below allocated_size used_size room next_segment length_bad name_bad allocated_bad used_bad end_bad sizes_bad role_bad segment_rows walk_rows walked_from walked segments_rows member walked_as major file_part directory_position metadata_position update_pending attachment_directory_position names_none names_none_but0 file_rows pixel_type file_position entry_part compression dimension_count letter start size stored_field stored next_entry head_bad letter_bad too_far is_plane most_size plane_size_bad other_size_bad size_bad dimension_bad has_letter repeats closes_plane has_layers layers_bad dimensions_bad letter_index letter_place is_layered layers_index layers_place layer_count pixel_bytes metadata_size attachment_size data_size fixed_part copy_bad sub_block_bad layer_size pixels_size contents_bad metadata_place pixels_place layer_pixels_place attachment_place white name_byte text_byte quote begins_name opener closer front behind begins behind_first quote_after behind_tag tag_at closed end_tag_at skip_at mark_at item_at or_none one_more read_from reads_as same_bytes in_section start_stage text_stage ends_well declares part_of Option-elim is_container has_chunks chunk_size next_chunk chunk_bad is_mask mask_bad mask_refused mask_width mask_height mask_stride representation chunk_rows chunks_rows mask_byte mask_valid entry_count room_end tile_count entry_place directory_bad head_rows tile_rows sub_block_rows attachment_rows entry_rows directory_rows metadata_rows attachments_rows checks verdict signed32 layers_of tile_at tile_record pixels_span tile_pixels tile_verdict
all_right = refl
