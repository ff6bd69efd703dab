-- The content of each kind of segment of a new file, field by field as paper 01 lists them. What it does not name is zero; of the file segment Minor
-- and the two GUIDs are kept besides. A field that is kept is its bytes in the old file bs; a position is the new one.
use Rattle.std.specs.Prelude.{ℕ, ◌+◌, ◌*◌, ◌-◌, List, ◌++◌}
use Rattle.format.specs.Bytes.{part_of}
use Rattle.format.specs.Entry.{dimension_count}
use Rattle.format.specs.SubBlock.{fixed_part, metadata_size, attachment_size, data_size, metadata_place}
use Rattle.format.specs.Attachments.{xml_size, xml_attachment_size, attachment_data_size}
use Rattle.pack.specs.Pack.{long, zeros}

-- ---- the file segment, of 512 bytes: Major Int 0, Minor Int 4, PrimaryFileGuid 16, FileGuid 32, FilePart Int 48, DirectoryPosition Long 52,
-- MetadataPosition Long 60, UpdatePending Int 68, AttachmentDirectoryPosition Long 72. FilePart and UpdatePending of an accepted file are 0

unfoldable pub file_content : List ℕ → ℕ → ℕ → ℕ → List ℕ
file_content bs directory metadata attachments =
    part_of bs 32 8 ++
    (zeros 8 ++
    (part_of bs 48 32 ++
    (zeros 4 ++
    (long directory ++
    (long metadata ++
    (zeros 4 ++
    (long attachments ++
    zeros 432)))))))

-- ---- the entry DV at e, whose sub-block has the new place p: `DV` at 0, PixelType 2, FilePosition 6, FilePart 14, Compression 18, pyramid byte 22,
-- spare 23 to 27, DimensionCount 28, then the dimensions

unfoldable pub moved_entry : List ℕ → ℕ → ℕ → List ℕ
moved_entry bs e p =
    part_of bs e 6 ++
    (long p ++
    (part_of bs (e + 14) 9 ++
    (zeros 5 ++
    part_of bs (e + 28) (4 + 20 * dimension_count bs e))))

-- ---- the directory at d: EntryCount Int 0, entries from 128

unfoldable pub directory_content : List ℕ → ℕ → List ℕ → List ℕ
directory_content bs d entries = part_of bs (d + 32) 4 ++ (zeros 124 ++ entries)

-- ---- the sub-block at q, whose entry is at e and whose new place is p: MetadataSize Int 0, AttachmentSize Int 4, DataSize Long 8, its copy of the entry
-- at 16; then from F metadata, pixels, attachment

-- how many bytes its three parts have
unfoldable pub parts_size : List ℕ → ℕ → ℕ
parts_size bs q = metadata_size bs q + data_size bs q + attachment_size bs q

unfoldable pub sub_block_content : List ℕ → ℕ → ℕ → ℕ → List ℕ
sub_block_content bs e q p =
    part_of bs (q + 32) 16 ++
    (moved_entry bs e p ++
    (zeros (fixed_part (dimension_count bs e) - (48 + 20 * dimension_count bs e)) ++
    part_of bs (metadata_place bs e q) (parts_size bs q)))

-- ---- the metadata segment at m: XmlSize Int 0, AttachmentSize Int 4; both parts from 256

unfoldable pub metadata_content : List ℕ → ℕ → List ℕ
metadata_content bs m = part_of bs (m + 32) 8 ++ (zeros 248 ++ part_of bs (m + 288) (xml_size bs m + xml_attachment_size bs m))

-- ---- the entry A1 at e, whose attachment has the new place p: `A1` at 0, FilePosition Long 12, FilePart Int 20, content GUID 24, file type 40, name 48

unfoldable pub moved_attachment_entry : List ℕ → ℕ → ℕ → List ℕ
moved_attachment_entry bs e p = part_of bs e 2 ++ (zeros 10 ++ (long p ++ part_of bs (e + 20) 108))

-- ---- the attachment directory at t: EntryCount Int 0, entries from 256

unfoldable pub attachment_directory_content : List ℕ → ℕ → List ℕ → List ℕ
attachment_directory_content bs t entries = part_of bs (t + 32) 4 ++ (zeros 252 ++ entries)

-- ---- the attachment at q, whose entry is at e and whose new place is p: DataSize Int 0, its copy of the entry at 16, data from 256

unfoldable pub attachment_content : List ℕ → ℕ → ℕ → ℕ → List ℕ
attachment_content bs e q p =
    part_of bs (q + 32) 4 ++
    (zeros 12 ++
    (moved_attachment_entry bs e p ++
    (zeros 112 ++
    part_of bs (q + 288) (attachment_data_size bs q))))
