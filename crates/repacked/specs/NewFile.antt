-- The new file of an accepted one, bs: how long its segments are, where they stand, and its bytes. A "new" place is one in the new file. Of bytes that
-- are no accepted file these definitions mean nothing.
use Rattle.std.specs.Prelude.{ℕ, zero, suc, ◌+◌, ◌*◌, List, [], ◌∷◌, ◌++◌, cond, eqb}
use Rattle.format.specs.Names.{name_file, name_directory, name_sub_block, name_metadata, name_attachment, name_attachment_directory}
use Rattle.format.specs.Scan.{Scan, scan_of}
use Rattle.format.specs.File.{directory_position, metadata_position, attachment_directory_position}
use Rattle.format.specs.Entry.{dimension_count, file_position}
use Rattle.format.specs.SubBlock.{fixed_part}
use Rattle.format.specs.Directory.{tile_count, entry_place}
use Rattle.format.specs.Attachments.{xml_size, xml_attachment_size, attachment_count, attachment_position, attachment_data_size}
use Rattle.equivalent.specs.Same.{attachment_entry_of}
use Rattle.pack.specs.Pack.{Segment, segment_size, packed, each, joined}
use Rattle.repacked.specs.Contents.{file_content, moved_entry, directory_content, parts_size, sub_block_content, metadata_content}
use Rattle.repacked.specs.Contents.{moved_attachment_entry, attachment_directory_content, attachment_content}

-- x where the position q of the file segment names a segment, y where it is 0, which means none
abbrev pub if_named : {A : Type 0} → ℕ → A → A → A
if_named q x y = cond (eqb q 0) y x

-- ---- what the entries of a file name: the sub-block of entry k, which is `tilePosition` of its scan, and the attachment of entry k of the attachment directory

abbrev pub entry_block : List ℕ → ℕ → ℕ
entry_block bs k = file_position bs (entry_place bs k)

abbrev pub entry_attachment : List ℕ → ℕ → ℕ
entry_attachment bs k = attachment_position bs (attachment_entry_of bs k)

-- ---- how long the contents are

unfoldable pub entry_size : List ℕ → ℕ → ℕ
entry_size bs e = 32 + 20 * dimension_count bs e

-- the entries below k
unfoldable pub entries_size : List ℕ → ℕ → ℕ
entries_size bs zero = 0
entries_size bs (suc k) = entries_size bs k + entry_size bs (entry_place bs k)

unfoldable pub directory_size : List ℕ → ℕ
directory_size bs = 128 + entries_size bs (tile_count bs)

-- the sub-block at q, whose entry is at e
unfoldable pub sub_block_size : List ℕ → ℕ → ℕ → ℕ
sub_block_size bs e q = fixed_part (dimension_count bs e) + parts_size bs q

-- the metadata segment at m
unfoldable pub metadata_content_size : List ℕ → ℕ → ℕ
metadata_content_size bs m = 256 + (xml_size bs m + xml_attachment_size bs m)

-- the attachment directory with n entries
unfoldable pub attachment_directory_size : ℕ → ℕ
attachment_directory_size n = 256 + 128 * n

-- the attachment at q
unfoldable pub attachment_content_size : List ℕ → ℕ → ℕ
attachment_content_size bs q = 256 + attachment_data_size bs q

-- ---- new places, in the order of the new file: the file segment at 0, with a content of 512 bytes; the directory; each entry's sub-block; the metadata
-- segment; the attachment directory; the attachments. What is absent takes no room

unfoldable pub new_directory : ℕ
new_directory = segment_size 512

unfoldable pub new_block : List ℕ → ℕ → ℕ
new_block bs zero = new_directory + segment_size (directory_size bs)
new_block bs (suc k) = new_block bs k + segment_size (sub_block_size bs (entry_place bs k) (entry_block bs k))

unfoldable pub new_metadata : List ℕ → ℕ
new_metadata bs = new_block bs (tile_count bs)

unfoldable pub new_attachment_directory : List ℕ → ℕ
new_attachment_directory bs = new_metadata bs + if_named (metadata_position bs) (segment_size (metadata_content_size bs (metadata_position bs))) 0

unfoldable pub new_attachment : List ℕ → ℕ → ℕ
new_attachment bs zero = new_attachment_directory bs + if_named (attachment_directory_position bs) (segment_size (attachment_directory_size (attachment_count bs))) 0
new_attachment bs (suc k) = new_attachment bs k + segment_size (attachment_content_size bs (entry_attachment bs k))

-- the place behind the last segment: how long the new file is
unfoldable pub new_end : List ℕ → ℕ
new_end bs = new_attachment bs (attachment_count bs)

-- ---- the entries with their new positions

unfoldable pub new_entry : List ℕ → ℕ → List ℕ
new_entry bs k = moved_entry bs (entry_place bs k) (new_block bs k)

unfoldable pub new_attachment_entry : List ℕ → ℕ → List ℕ
new_attachment_entry bs k = moved_attachment_entry bs (attachment_entry_of bs k) (new_attachment bs k)

-- ---- the segments

unfoldable pub file_segment : List ℕ → Segment
file_segment bs =
    record {
      name = name_file;
      content =
          file_content bs new_directory
          (if_named (metadata_position bs) (new_metadata bs) 0)
          (if_named (attachment_directory_position bs) (new_attachment_directory bs) 0);
    }

unfoldable pub directory_segment : List ℕ → Segment
directory_segment bs =
    record { name = name_directory; content = directory_content bs (directory_position bs) (joined (tile_count bs) (new_entry bs)) }

-- of entry k
unfoldable pub block_segment : List ℕ → ℕ → Segment
block_segment bs k = record { name = name_sub_block; content = sub_block_content bs (entry_place bs k) (entry_block bs k) (new_block bs k) }

unfoldable pub metadata_segment : List ℕ → Segment
metadata_segment bs = record { name = name_metadata; content = metadata_content bs (metadata_position bs) }

unfoldable pub attachment_directory_segment : List ℕ → Segment
attachment_directory_segment bs =
    record {
      name = name_attachment_directory;
      content = attachment_directory_content bs (attachment_directory_position bs) (joined (attachment_count bs) (new_attachment_entry bs));
    }

-- of entry k of the attachment directory
unfoldable pub attachment_segment : List ℕ → ℕ → Segment
attachment_segment bs k =
    record { name = name_attachment; content = attachment_content bs (attachment_entry_of bs k) (entry_attachment bs k) (new_attachment bs k) }

-- those behind the sub-blocks
unfoldable pub annex_segments : List ℕ → List Segment
annex_segments bs =
    if_named (metadata_position bs) (metadata_segment bs ∷ []) [] ++
    (if_named (attachment_directory_position bs) (attachment_directory_segment bs ∷ []) [] ++
    each (attachment_count bs) (attachment_segment bs))

-- all of them, in their order
unfoldable pub new_segments : List ℕ → List Segment
new_segments bs = file_segment bs ∷ directory_segment bs ∷ (each (tile_count bs) (block_segment bs) ++ annex_segments bs)

-- the new file
unfoldable pub repacked : List ℕ → List ℕ
repacked bs = packed (new_segments bs)

abbrev pub repacked_scan : Scan → Scan
repacked_scan sc = scan_of (repacked sc.file) sc.release
