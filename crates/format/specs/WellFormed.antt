-- A well-formed file, under the release of its scan, said without rows, order or a walk: its segments tile it, its fields are right, each entry agrees with
-- the segment it names.
use Rattle.std.specs.Prelude.{ℕ, ◌+◌, ◌≤◌, ◌<◌, ◌≡◌, ◌⊎◌, List, [], ◌∷◌, true, false, length, get_or}
use Rattle.format.specs.Bytes.{same_at, part_of}
use Rattle.format.specs.Names.{name_directory, name_sub_block, name_metadata, name_attachment, name_attachment_directory}
use Rattle.format.specs.Scan.{Scan, block_file}
use Rattle.format.specs.Segments.{next_segment, length_bad, name_bad, sizes_bad, role_bad}
use Rattle.format.specs.File.{major, file_part, update_pending, directory_position, metadata_position, attachment_directory_position}
use Rattle.format.specs.Entry.{pixel_type, pixel_bytes, file_position, entry_part, compression, next_entry, head_bad, dimensions_bad}
use Rattle.format.specs.SubBlock.{metadata_size, attachment_size, sub_block_bad, contents_bad, metadata_place, attachment_place}
use Rattle.format.specs.Container.{Container}
use Rattle.format.specs.declared.Release.{Release}
use Rattle.format.specs.declared.Release.TheVariants.{R12}
use Rattle.format.specs.Masks.{next_chunk, chunk_bad, is_mask, mask_bad}
use Rattle.format.specs.Directory.{room_end, tile_count, entry_place, directory_bad}
use Rattle.format.specs.Attachments.{metadata_bad, attachment_directory_bad, attachment_entry_count, attachment_entry, attachment_position, attachment_part, attachment_entry_bad, attachment_bad, attachment_data_bad}

-- l are the places from p on, each the next of the one before it, and the last ends at `end`
abbrev pub Chain : (ℕ → ℕ) → ℕ → ℕ → List ℕ → Type 0
Chain next p end [] = p ≡ end
Chain next p end (q ∷ l) = (q ≡ p) × Chain next (next q) end l

-- every place of l is so
abbrev pub Each : (ℕ → Type 0) → List ℕ → Type 0
Each P l = (i : ℕ) → i < length l → P (get_or l i 0)

-- q is one of l
abbrev pub Among : ℕ → List ℕ → Type 0
Among q l = (i : ℕ) × (i < length l) × (get_or l i 0 ≡ q)

-- ---- segments

pub record Segment (bs : List ℕ) (p : ℕ) : Type 0 where
  pub name : name_bad bs p ≡ false
  pub sizes : sizes_bad bs p ≡ false
  pub role : role_bad bs p ≡ false

-- position q names one of the segments, of the kind that has that name
abbrev pub Names : List ℕ → List ℕ → ℕ → List ℕ → Type 0
Names bs segments q name = Among q segments × (same_at bs q name ≡ true)

-- ---- chunks: they fill the attachment from a to end exactly, each is right, and at most one is a mask

pub record Chunks (bs : List ℕ) (a end : ℕ) : Type 0 where
  pub chunks : List ℕ
  pub fill : Chain (next_chunk bs) a end chunks
  pub chunk : Each (λ c. chunk_bad bs end c ≡ false) chunks
  pub mask : Each (λ c. is_mask bs c ≡ true → mask_bad bs c ≡ false) chunks
  pub one : (i j : ℕ) → i < length chunks → j < length chunks → is_mask bs (get_or chunks i 0) ≡ true → is_mask bs (get_or chunks j 0) ≡ true → i ≡ j

-- the sub-block at q of the file bs, its entry at e of the file ds: the release is 1.2, and its metadata declare a container
abbrev pub DeclaresChunks : List ℕ → ℕ → List ℕ → ℕ → Release → Type 0
DeclaresChunks ds e bs q r = (r ≡ R12) × Container (part_of bs (metadata_place ds e q) (metadata_size bs q))

-- its attachment is filled by right chunks, at most one of them a mask
abbrev pub ChunksFill : List ℕ → ℕ → List ℕ → ℕ → Type 0
ChunksFill ds e bs q = Chunks bs (attachment_place ds e bs q) (attachment_place ds e bs q + attachment_size bs q)

-- ---- an entry DV at e of the directory at d, and its sub-block; segments are those of the scan's one file

pub record Entry (sc : Scan) (segments : List ℕ) (d e : ℕ) : Type 0 where
  pub head_fits : e + 32 ≤ room_end sc.file d
  pub head : head_bad sc.file e ≡ false
  pub fits : next_entry sc.file e ≤ room_end sc.file d
  pub dimensions : dimensions_bad sc.file e ≡ false
  pub listed : pixel_bytes (pixel_type sc.file e) ≡ 0 → ⊥
  pub uncompressed : compression sc.file e ≡ 0
  pub part : entry_part sc.file e ≡ 0
  pub names : Names (block_file sc e) segments (file_position sc.file e) name_sub_block
  pub block : sub_block_bad sc.file e (block_file sc e) (file_position sc.file e) ≡ false
  pub contents : contents_bad sc.file e (block_file sc e) (file_position sc.file e) ≡ false
  pub container : DeclaresChunks sc.file e (block_file sc e) (file_position sc.file e) sc.release
      → ChunksFill sc.file e (block_file sc e) (file_position sc.file e)

-- ---- an entry A1 at e, and its attachment

pub record AttachmentEntry (bs segments : List ℕ) (e : ℕ) : Type 0 where
  pub entry : attachment_entry_bad bs e ≡ false
  pub part : attachment_part bs e ≡ 0
  pub names : Names bs segments (attachment_position bs e) name_attachment
  pub attachment : attachment_bad bs e bs (attachment_position bs e) ≡ false
  pub contents : attachment_data_bad bs (attachment_position bs e) ≡ false

pub record AttachmentDirectory (bs segments : List ℕ) (t : ℕ) : Type 0 where
  pub names : Names bs segments t name_attachment_directory
  pub directory : attachment_directory_bad bs t ≡ false
  pub entries : (k : ℕ) → k < attachment_entry_count bs t → AttachmentEntry bs segments (attachment_entry t k)

-- ---- the file

pub record WellFormed (sc : Scan) : Type 0 where
  pub length-right : length_bad sc.file ≡ false
  pub segments : List ℕ
  pub tile : Chain (next_segment sc.file) 0 (length sc.file) segments
  pub few : length segments ≤ 8192
  pub segment : Each (Segment sc.file) segments
  pub major_right : major sc.file ≡ 1
  pub part : file_part sc.file ≡ 0
  pub settled : update_pending sc.file ≡ 0
  pub names_directory : Names sc.file segments (directory_position sc.file) name_directory
  pub directory : directory_bad sc.file (directory_position sc.file) ≡ false
  pub entries : (k : ℕ) → k < tile_count sc.file → Entry sc segments (directory_position sc.file) (entry_place sc.file k)
  pub metadata : (metadata_position sc.file ≡ 0) ⊎ (Names sc.file segments (metadata_position sc.file) name_metadata × (metadata_bad sc.file (metadata_position sc.file) ≡ false))
  pub attachments : (attachment_directory_position sc.file ≡ 0) ⊎ AttachmentDirectory sc.file segments (attachment_directory_position sc.file)
