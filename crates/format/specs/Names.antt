-- The fixed byte strings of the format.
use Rattle.std.specs.Prelude.{ℕ, List, [], ◌∷◌}

-- ---- the names of segments, padded with zero bytes to 16

-- ZISRAWFILE
unfoldable pub name_file : List ℕ
name_file = 90 ∷ 73 ∷ 83 ∷ 82 ∷ 65 ∷ 87 ∷ 70 ∷ 73 ∷ 76 ∷ 69 ∷ 0 ∷ 0 ∷ 0 ∷ 0 ∷ 0 ∷ 0 ∷ []

-- ZISRAWDIRECTORY
unfoldable pub name_directory : List ℕ
name_directory = 90 ∷ 73 ∷ 83 ∷ 82 ∷ 65 ∷ 87 ∷ 68 ∷ 73 ∷ 82 ∷ 69 ∷ 67 ∷ 84 ∷ 79 ∷ 82 ∷ 89 ∷ 0 ∷ []

-- ZISRAWSUBBLOCK
unfoldable pub name_sub_block : List ℕ
name_sub_block = 90 ∷ 73 ∷ 83 ∷ 82 ∷ 65 ∷ 87 ∷ 83 ∷ 85 ∷ 66 ∷ 66 ∷ 76 ∷ 79 ∷ 67 ∷ 75 ∷ 0 ∷ 0 ∷ []

-- ZISRAWMETADATA
unfoldable pub name_metadata : List ℕ
name_metadata = 90 ∷ 73 ∷ 83 ∷ 82 ∷ 65 ∷ 87 ∷ 77 ∷ 69 ∷ 84 ∷ 65 ∷ 68 ∷ 65 ∷ 84 ∷ 65 ∷ 0 ∷ 0 ∷ []

-- ZISRAWATTACH
unfoldable pub name_attachment : List ℕ
name_attachment = 90 ∷ 73 ∷ 83 ∷ 82 ∷ 65 ∷ 87 ∷ 65 ∷ 84 ∷ 84 ∷ 65 ∷ 67 ∷ 72 ∷ 0 ∷ 0 ∷ 0 ∷ 0 ∷ []

-- ZISRAWATTDIR
unfoldable pub name_attachment_directory : List ℕ
name_attachment_directory = 90 ∷ 73 ∷ 83 ∷ 82 ∷ 65 ∷ 87 ∷ 65 ∷ 84 ∷ 84 ∷ 68 ∷ 73 ∷ 82 ∷ 0 ∷ 0 ∷ 0 ∷ 0 ∷ []

-- DELETED
unfoldable pub name_deleted : List ℕ
name_deleted = 68 ∷ 69 ∷ 76 ∷ 69 ∷ 84 ∷ 69 ∷ 68 ∷ 0 ∷ 0 ∷ 0 ∷ 0 ∷ 0 ∷ 0 ∷ 0 ∷ 0 ∷ 0 ∷ []

-- ---- the marks of directory entries

-- DV
unfoldable pub mark_tile : List ℕ
mark_tile = 68 ∷ 86 ∷ []

-- A1
unfoldable pub mark_attachment : List ℕ
mark_attachment = 65 ∷ 49 ∷ []

-- ---- the container's section in a sub-block's metadata: the names of its three tags, and its text

-- METADATA
unfoldable pub tag_metadata : List ℕ
tag_metadata = 77 ∷ 69 ∷ 84 ∷ 65 ∷ 68 ∷ 65 ∷ 84 ∷ 65 ∷ []

-- AttachmentSchema
unfoldable pub tag_schema : List ℕ
tag_schema = 65 ∷ 116 ∷ 116 ∷ 97 ∷ 99 ∷ 104 ∷ 109 ∷ 101 ∷ 110 ∷ 116 ∷ 83 ∷ 99 ∷ 104 ∷ 101 ∷ 109 ∷ 97 ∷ []

-- DataFormat
unfoldable pub tag_format : List ℕ
tag_format = 68 ∷ 97 ∷ 116 ∷ 97 ∷ 70 ∷ 111 ∷ 114 ∷ 109 ∷ 97 ∷ 116 ∷ []

-- CHUNKCONTAINER
unfoldable pub text_container : List ℕ
text_container = 67 ∷ 72 ∷ 85 ∷ 78 ∷ 75 ∷ 67 ∷ 79 ∷ 78 ∷ 84 ∷ 65 ∷ 73 ∷ 78 ∷ 69 ∷ 82 ∷ []

-- ---- masks

-- the mask GUID {CBE3EA67-5BFC-492B-A16A-ECE378031448} as it is stored: 67 EA E3 CB FC 5B 2B 49 A1 6A EC E3 78 03 14 48
unfoldable pub mask_guid : List ℕ
mask_guid = 0x67 ∷ 0xea ∷ 0xe3 ∷ 0xcb ∷ 0xfc ∷ 0x5b ∷ 0x2b ∷ 0x49 ∷ 0xa1 ∷ 0x6a ∷ 0xec ∷ 0xe3 ∷ 0x78 ∷ 0x03 ∷ 0x14 ∷ 0x48 ∷ []
