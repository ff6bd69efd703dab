-- Worked cases of a repack (paper 02, Req 04): whole new files in bytes, the refusals in their order, and a second repack.
use Rattle.std.specs.Prelude.{ℕ, ◌-◌, refl, List, [], ◌∷◌, ◌++◌, length, replicate}
use Rattle.std.proofs.Math.Option.{Option-elim}
use Rattle.format.specs.Scan.{scan_of}
use Rattle.format.specs.Bytes.{any_of, any_below, all_below, least_below, u32_at, u64_at, biased, same_at, same_range, part_of}
use Rattle.format.specs.Names.{name_file, name_directory, name_sub_block, name_metadata, name_attachment, name_attachment_directory, name_deleted, mark_tile, mark_attachment, tag_metadata, tag_schema, tag_format, text_container, mask_guid}
use Rattle.format.specs.Checks.{Verdict, Accepted, Refused, rows_below}
use Rattle.format.specs.Segments.{allocated_size, used_size, room, next_segment, length_bad, name_bad, allocated_bad, used_bad, end_bad, sizes_bad, role_bad, segment_rows, walk_rows, walked_from, walked, segments_rows, member, walked_as}
use Rattle.format.specs.File.{major, file_part, directory_position, metadata_position, update_pending, attachment_directory_position, names_none, names_none_but0, file_rows}
use Rattle.format.specs.Entry.{pixel_type, file_position, entry_part, compression, dimension_count, letter, start, size, stored_field, stored, next_entry, head_bad, letter_bad, too_far, is_plane, most_size, plane_size_bad, other_size_bad, size_bad, dimension_bad, has_letter, repeats, closes_plane, has_layers, layers_bad, dimensions_bad, letter_index, letter_place, is_layered, layers_index, layers_place, layer_count, pixel_bytes}
use Rattle.format.specs.SubBlock.{metadata_size, attachment_size, data_size, fixed_part, copy_bad, sub_block_bad, layer_size, pixels_size, contents_bad, metadata_place, pixels_place, attachment_place}
use Rattle.format.specs.Markup.{white, name_byte, text_byte, quote, begins_name, opener, closer, front, behind, begins, behind_first, quote_after, behind_tag}
use Rattle.format.specs.Markup.{tag_at, closed, end_tag_at, skip_at, mark_at, item_at, or_none, one_more, read_from, reads_as}
use Rattle.format.specs.Container.{same_bytes, in_section, start_stage, text_stage, ends_well, declares, is_container}
use Rattle.format.specs.Masks.{has_chunks, chunk_size, next_chunk, chunk_bad, is_mask, mask_bad, mask_refused, mask_width, mask_height, mask_stride, representation, chunk_rows, chunks_rows, mask_byte, mask_valid}
use Rattle.format.specs.Directory.{entry_count, room_end, tile_count, entry_place, directory_bad, head_rows, tile_rows, sub_block_rows, attachment_rows, entry_rows, directory_rows}
use Rattle.format.specs.Attachments.{xml_size, xml_attachment_size, metadata_bad, metadata_rows, attachment_entry_count, attachment_entry, attachment_directory_bad, attachment_count, attachment_position, attachment_part, attachment_entry_bad}
use Rattle.format.specs.Attachments.{attachment_data_size, attachment_bad, attachment_data_bad, attachment_entry_rows, attachment_directory_rows, attachments_rows}
use Rattle.format.specs.Rules.{checks, verdict}
use Rattle.format.specs.declared.Release.TheVariants.{R12}
use Rattle.pack.specs.Pack.{bytes_of, zeros, allocated, segment_size, header, segment_bytes, packed, each, joined}
use Rattle.repacked.specs.Contents.{file_content, moved_entry, directory_content, parts_size, sub_block_content, metadata_content, moved_attachment_entry, attachment_directory_content, attachment_content}
use Rattle.repacked.specs.NewFile.{entry_size, entries_size, directory_size, sub_block_size, metadata_content_size, attachment_directory_size, attachment_content_size, new_directory, new_block, new_metadata, new_attachment_directory, new_attachment, new_end, new_entry, new_attachment_entry}
use Rattle.repacked.specs.NewFile.{directory_segment, block_segment, metadata_segment, attachment_directory_segment, attachment_segment, annex_segments, new_segments, repacked}
use Rattle.repacked.specs.NewFile as New
use Rattle.repacked.specs.Refusals.{too_large, size_verdict, repack_verdict}
use Rattle.cases.specs.Written.{bytes}
use Rattle.cases.specs.Cases.{little, segment, file_segment, file288, element, container_section, dimension1, entry1, file19}
use Rattle.format.specs.declared.Fault.TheVariants as Fault
use Rattle.cases.specs.Right.{AllRight}

-- ---- the new file of the 288-byte file, whole in bytes: the file segment of 544, the directory of 160

-- a name, padded to 16 bytes, and both sizes
unfoldable pub heading : List ℕ → ℕ → ℕ → List ℕ
heading name allocated used = name ++ (replicate (16 - length name) 0 ++ (little 8 allocated ++ little 8 used))

unfoldable pub new704 : List ℕ
new704 =
    heading (bytes "ZISRAWFILE") 512 512 ++
    ((1 ∷ 0 ∷ 0 ∷ 0 ∷ []) ++ (replicate 48 0 ++
    ((32 ∷ 2 ∷ 0 ∷ 0 ∷ 0 ∷ 0 ∷ 0 ∷ 0 ∷ []) ++ (replicate 452 0 ++
    (heading (bytes "ZISRAWDIRECTORY") 128 128 ++
    replicate 128 0)))))

-- ---- a file with a dead segment in front and at its end, an entry listed twice, spare bytes, slack, metadata, and an attachment

-- n spare bytes, which are not zero
unfoldable pub spare : ℕ → List ℕ
spare n = replicate n 9

-- the entry with these spare bytes, its sub-block at q
unfoldable pub entry_at : ℕ → List ℕ → List ℕ
entry_at q five = mark_tile ++ (little 4 0 ++ (little 8 q ++ (replicate 9 0 ++ (five ++ (little 4 2 ++ (dimension1 88 ++ dimension1 89))))))

-- an entry A1 with these ten bytes behind its mark, its attachment at q; the name ends at its first zero byte, and three bytes behind it are not zero
unfoldable pub attached_at : ℕ → List ℕ → List ℕ
attached_at q ten =
    bytes "A1" ++ (ten ++ (little 8 q ++ (replicate 4 0 ++ (replicate 16 3 ++ (bytes "JPG" ++ (replicate 5 0 ++ (bytes "Label" ++ (0 ∷ 7 ∷ 7 ∷ 7 ∷ replicate 71 0))))))))

unfoldable pub file_dirty : List ℕ
file_dirty =
    segment name_file 96 (little 4 1 ++ (little 4 2 ++ (spare 8 ++ (replicate 16 11 ++ (replicate 16 12 ++ (replicate 4 0 ++ (little 8 192 ++ (little 8 832 ++ (replicate 4 0 ++ (little 8 1152 ++ spare 16)))))))))) ++
    (segment name_deleted 32 (spare 32) ++
    (segment name_directory 288 (little 4 2 ++ (spare 124 ++ (entry_at 512 (spare 5) ++ (entry_at 512 (spare 5) ++ spare 16)))) ++
    (segment name_sub_block 288 (little 4 0 ++ (little 4 0 ++ (little 8 1 ++ (entry_at 512 (replicate 5 8) ++ (spare 168 ++ (77 ∷ spare 31)))))) ++
    (segment name_metadata 288 (little 4 3 ++ (little 4 2 ++ (spare 248 ++ ((60 ∷ 97 ∷ 62 ∷ 1 ∷ 2 ∷ []) ++ spare 27)))) ++
    (segment name_attachment_directory 384 (little 4 1 ++ (spare 252 ++ attached_at 1568 (spare 10))) ++
    (segment name_attachment 288 (little 4 4 ++ (spare 12 ++ (attached_at 1568 (spare 10) ++ (spare 112 ++ ((5 ∷ 6 ∷ 7 ∷ 8 ∷ []) ++ spare 28))))) ++
    segment name_deleted 0 []))))))

-- its new file, of 2,560 bytes: the sub-block stands twice, at 864 and 1184
unfoldable pub new_block_at : ℕ → List ℕ
new_block_at p = heading (bytes "ZISRAWSUBBLOCK") 288 257 ++ (little 8 0 ++ (little 8 1 ++ (entry_at p (replicate 5 0) ++ (replicate 168 0 ++ (77 ∷ replicate 31 0)))))

unfoldable pub new_clean : List ℕ
new_clean =
    heading (bytes "ZISRAWFILE") 512 512 ++
    (little 4 1 ++ (little 4 2 ++ (replicate 8 0 ++ (replicate 16 11 ++ (replicate 16 12 ++ (replicate 4 0 ++
    (little 8 544 ++ (little 8 1504 ++ (replicate 4 0 ++ (little 8 1824 ++ (replicate 432 0 ++
    (heading (bytes "ZISRAWDIRECTORY") 288 272 ++
    (little 4 2 ++ (replicate 124 0 ++ (entry_at 864 (replicate 5 0) ++ (entry_at 1184 (replicate 5 0) ++ (replicate 16 0 ++
    (new_block_at 864 ++
    (new_block_at 1184 ++
    (heading (bytes "ZISRAWMETADATA") 288 261 ++
    (little 4 3 ++ (little 4 2 ++ (replicate 248 0 ++ ((60 ∷ 97 ∷ 62 ∷ 1 ∷ 2 ∷ []) ++ (replicate 27 0 ++
    (heading (bytes "ZISRAWATTDIR") 384 384 ++
    (little 4 1 ++ (replicate 252 0 ++ (attached_at 2240 (replicate 10 0) ++
    (heading (bytes "ZISRAWATTACH") 288 260 ++
    (little 4 4 ++ (replicate 12 0 ++ (attached_at 2240 (replicate 10 0) ++ (replicate 112 0 ++ ((5 ∷ 6 ∷ 7 ∷ 8 ∷ []) ++ replicate 28 0)))))))))))))))))))))))))))))))))))

-- ---- the cases

pub data Question : Type 0 where
  -- the new file
  renewed : List ℕ → Question
  -- the verdicts: on a question for its length, and on a repack into a buffer of a length
  sized : List ℕ → Question
  into : List ℕ → ℕ → Question
  judged : List ℕ → Question

pub data Answer : Type 0 where
  file : List ℕ → Answer
  says : Verdict → Answer

abbrev pub answer_to : Question → Answer
answer_to (renewed bs) = file (repacked bs)
answer_to (sized bs) = says (size_verdict (scan_of bs R12))
answer_to (into bs n) = says (repack_verdict (scan_of bs R12) n)
answer_to (judged bs) = says (verdict (scan_of bs R12))

pub record Case : Type 0 where
  pub question : Question
  pub right : Answer

abbrev pub case : Question → Answer → Case
case q a = record { question = q; right = a }

abbrev pub cases : List Case
cases =
    -- the 288-byte file, its new file, and that one's
    case (renewed file288) (file new704) ∷
    case (judged new704) (says Accepted) ∷
    case (renewed new704) (file new704) ∷
    -- a buffer of just its length, and one that is a byte short
    case (into file288 704) (says Accepted) ∷
    case (into file288 703) (says (Refused Fault.RepackBuffer 0)) ∷
    -- dead segments and slack are gone, spare bytes are zero, and the sub-block that is listed twice is written twice
    case (judged file_dirty) (says Accepted) ∷
    case (sized file_dirty) (says Accepted) ∷
    case (renewed file_dirty) (file new_clean) ∷
    case (into file_dirty 2560) (says Accepted) ∷
    case (into file_dirty 2559) (says (Refused Fault.RepackBuffer 0)) ∷
    case (judged new_clean) (says Accepted) ∷
    case (renewed new_clean) (file new_clean) ∷
    -- a file's own refusal goes first, whatever the buffer
    case (sized file19) (says (Refused Fault.Chunk 770)) ∷
    case (into file19 0) (says (Refused Fault.Chunk 770)) ∷
    case (into [] 0) (says (Refused Fault.Length 0)) ∷
    []

pub all_right : AllRight (λ (c : Case). answer_to c.question) (λ (c : Case). c.right) cases
unfolding little segment file_segment element container_section any_of any_below all_below least_below u32_at u64_at biased same_at same_range name_file name_directory name_sub_block name_metadata name_attachment name_attachment_directory name_deleted mark_tile tag_metadata tag_schema tag_format text_container mask_guid rows_below allocated_size used_size room next_segment length_bad name_bad allocated_bad used_bad end_bad sizes_bad role_bad segment_rows walk_rows walked_from walked segments_rows member walked_as major file_part directory_position metadata_position update_pending attachment_directory_position names_none names_none_but0 file_rows pixel_type file_position entry_part compression dimension_count letter start size stored_field stored next_entry head_bad letter_bad too_far is_plane most_size plane_size_bad other_size_bad size_bad dimension_bad has_letter repeats closes_plane has_layers layers_bad dimensions_bad letter_index letter_place is_layered layers_index layers_place layer_count pixel_bytes metadata_size attachment_size data_size fixed_part copy_bad sub_block_bad layer_size pixels_size contents_bad metadata_place pixels_place attachment_place white name_byte text_byte quote begins_name opener closer front behind begins behind_first quote_after behind_tag tag_at closed end_tag_at skip_at mark_at item_at or_none one_more read_from reads_as same_bytes in_section start_stage text_stage ends_well declares part_of Option-elim is_container has_chunks chunk_size next_chunk chunk_bad is_mask mask_bad mask_refused mask_width mask_height mask_stride representation chunk_rows chunks_rows mask_byte mask_valid entry_count room_end tile_count entry_place directory_bad head_rows tile_rows sub_block_rows attachment_rows entry_rows directory_rows metadata_rows attachments_rows checks verdict file288 dimension1 entry1 file19 heading new704 spare entry_at attached_at file_dirty new_block_at new_clean bytes_of zeros allocated segment_size header segment_bytes packed each joined file_content moved_entry directory_content parts_size sub_block_content metadata_content moved_attachment_entry attachment_directory_content attachment_content entry_size entries_size directory_size sub_block_size metadata_content_size attachment_directory_size attachment_content_size new_directory new_block new_metadata new_attachment_directory new_attachment new_entry new_attachment_entry New.file_segment directory_segment block_segment metadata_segment attachment_directory_segment attachment_segment annex_segments new_segments repacked too_large size_verdict repack_verdict xml_size xml_attachment_size metadata_bad attachment_entry_count attachment_entry attachment_directory_bad attachment_count attachment_position attachment_part attachment_entry_bad attachment_data_size attachment_bad attachment_data_bad attachment_entry_rows attachment_directory_rows mark_attachment
all_right = refl
