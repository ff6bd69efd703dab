-- The metadata segment, the attachment directory, its entries A1 and the attachments.
use Rattle.std.specs.Prelude.{ℕ, ◌+◌, ◌*◌, List, [], ◌∷◌, Bool, cond, not, get_or, eqb, ltb}
use Rattle.format.specs.Bytes.{u32_at, u64_at, part_of, same_at, same_range, any_of, any_below, negative32}
use Rattle.format.specs.Names.{name_attachment, mark_attachment}
use Rattle.format.specs.Checks.{Check, row, rows_below}
use Rattle.format.specs.Segments.{room, walked_as}
use Rattle.format.specs.File.{metadata_position, attachment_directory_position}
use Rattle.format.specs.declared.Fault.TheVariants as Fault

-- ---- the metadata segment at m: XmlSize Int 0, AttachmentSize Int 4, both counted from 256

unfoldable pub xml_size : List ℕ → ℕ → ℕ
xml_size bs m = u32_at bs (m + 32)

unfoldable pub xml_attachment_size : List ℕ → ℕ → ℕ
xml_attachment_size bs m = u32_at bs (m + 36)

-- refusal 10: sizes negative, or 256 plus both over its room
unfoldable pub metadata_bad : List ℕ → ℕ → Bool
metadata_bad bs m =
    any_of
    (negative32 (xml_size bs m) ∷
    negative32 (xml_attachment_size bs m) ∷
    ltb (room bs m) (256 + xml_size bs m + xml_attachment_size bs m) ∷
    [])

unfoldable pub metadata_rows : List ℕ → List Check
metadata_rows bs =
    cond (eqb (metadata_position bs) 0) []
    (row Fault.Directory (metadata_position bs) (metadata_bad bs (metadata_position bs)) ∷ [])

-- ---- the attachment directory at t: EntryCount Int 0, entries of 128 bytes from 256

unfoldable pub attachment_entry_count : List ℕ → ℕ → ℕ
attachment_entry_count bs t = u32_at bs (t + 32)

-- the place of entry k, counted from 0
unfoldable pub attachment_entry : ℕ → ℕ → ℕ
attachment_entry t k = t + 288 + 128 * k

-- refusal 10: the fixed part (256) or the entries don't fit its room; EntryCount negative or over 4,096
unfoldable pub attachment_directory_bad : List ℕ → ℕ → Bool
attachment_directory_bad bs t =
    any_of
    (ltb (room bs t) 256 ∷
    negative32 (attachment_entry_count bs t) ∷
    ltb 4096 (attachment_entry_count bs t) ∷
    ltb (room bs t) (256 + 128 * attachment_entry_count bs t) ∷
    [])

-- how many attachments there are: none without an attachment directory
unfoldable pub attachment_count : List ℕ → ℕ
attachment_count bs =
    cond (eqb (attachment_directory_position bs) 0) 0
    (attachment_entry_count bs (attachment_directory_position bs))

-- ---- an entry A1: `A1` at 0, FilePosition Long 12, FilePart Int 20, content GUID 24, file type 40 (8 bytes), name 48 (80 bytes, a zero byte within)

unfoldable pub attachment_position : List ℕ → ℕ → ℕ
attachment_position bs e = u64_at bs (e + 12)

unfoldable pub attachment_part : List ℕ → ℕ → ℕ
attachment_part bs e = u32_at bs (e + 20)

unfoldable pub attachment_guid : List ℕ → ℕ → List ℕ
attachment_guid bs e = part_of bs (e + 24) 16

unfoldable pub attachment_type : List ℕ → ℕ → List ℕ
attachment_type bs e = part_of bs (e + 40) 8

unfoldable pub attachment_name : List ℕ → ℕ → List ℕ
attachment_name bs e = part_of bs (e + 48) 80

-- refusal 11: no mark, or no zero byte in the name
unfoldable pub attachment_entry_bad : List ℕ → ℕ → Bool
attachment_entry_bad bs e =
    any_of
    (not (same_at bs e mark_attachment) ∷
    not (any_below 80 (λ i. eqb (get_or bs (e + 48 + i) 0) 0)) ∷
    [])

-- ---- an attachment at q of the file bs, its entry at e of the file ds: DataSize Int 0, the copy of the entry at 16, data from 256

unfoldable pub attachment_data_size : List ℕ → ℕ → ℕ
attachment_data_size bs q = u32_at bs (q + 32)

-- refusal 15: the fixed part (256) doesn't fit the room, or the copy differs
unfoldable pub attachment_bad : List ℕ → ℕ → List ℕ → ℕ → Bool
attachment_bad ds e bs q =
    any_of
    (ltb (room bs q) 256 ∷
    not (same_range 128 ds e bs (q + 48)) ∷
    [])

-- refusal 16: the size is negative or doesn't fit
unfoldable pub attachment_data_bad : List ℕ → ℕ → Bool
attachment_data_bad bs q =
    any_of
    (negative32 (attachment_data_size bs q) ∷
    ltb (room bs q) (256 + attachment_data_size bs q) ∷
    [])

-- each A1 entry: 11, 7, 14, 15, 16
unfoldable pub attachment_entry_rows : List ℕ → ℕ → List Check
attachment_entry_rows bs e =
    row Fault.Entry e (attachment_entry_bad bs e) ∷
    row Fault.FilePart e (not (eqb (attachment_part bs e) 0)) ∷
    row Fault.NamedSegment e (not (walked_as bs (attachment_position bs e) name_attachment)) ∷
    row Fault.Copy (attachment_position bs e) (attachment_bad bs e bs (attachment_position bs e)) ∷
    row Fault.Sizes (attachment_position bs e) (attachment_data_bad bs (attachment_position bs e)) ∷
    []

-- the attachment directory at t: 10 for all its entries, then each entry
unfoldable pub attachment_directory_rows : List ℕ → ℕ → List Check
attachment_directory_rows bs t =
    row Fault.Directory t (attachment_directory_bad bs t) ∷
    rows_below (attachment_entry_count bs t) (λ k. attachment_entry_rows bs (attachment_entry t k))

unfoldable pub attachments_rows : List ℕ → List Check
attachments_rows bs =
    cond (eqb (attachment_directory_position bs) 0) []
    (attachment_directory_rows bs (attachment_directory_position bs))
