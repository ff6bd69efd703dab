-- Two scans that say the same: their entries are the same but for positions and spare bytes, and so are the parts that they name, wherever those stand.
use Rattle.std.specs.Prelude.{ℕ, ◌+◌, ◌*◌, ◌<◌, ◌≡◌, List, eqb}
use Rattle.format.specs.Bytes.{part_of}
use Rattle.format.specs.Scan.{Scan}
use Rattle.format.specs.File.{directory_position, metadata_position, attachment_directory_position}
use Rattle.format.specs.Entry.{dimension_count}
use Rattle.format.specs.SubBlock.{metadata_size, attachment_size, data_size, metadata_place}
use Rattle.format.specs.Directory.{tile_count}
use Rattle.format.specs.Attachments.{xml_size, xml_attachment_size, attachment_entry, attachment_entry_count, attachment_position, attachment_data_size}
use Rattle.format.specs.Rules.{verdict}
use Rattle.format.specs.Records.{tile_entry, tile_file, tile_position}
use Rattle.format.specs.Checks.{Accepted}

-- the n bytes at a of ds are those at b of bs, and as many of them lie in the one file as in the other
abbrev pub Same : ℕ → List ℕ → ℕ → List ℕ → ℕ → Type 0
Same n ds a bs b = part_of ds a n ≡ part_of bs b n

-- the entries DV at e of ds and at f of bs: every byte but 6 to 13, the position, and 23 to 27
pub record SameEntry (ds : List ℕ) (e : ℕ) (bs : List ℕ) (f : ℕ) : Type 0 where
  pub front : Same 6 ds e bs f
  pub middle : Same 9 ds (e + 14) bs (f + 14)
  pub rest : Same (4 + 20 * dimension_count ds e) ds (e + 28) bs (f + 28)

-- the sub-blocks at q of ds and at p of bs, whose entries are at e of ds₀ and at f of bs₀: the three sizes; metadata, pixels and attachment
pub record SameBlock (ds₀ : List ℕ) (e : ℕ) (ds : List ℕ) (q : ℕ) (bs₀ : List ℕ) (f : ℕ) (bs : List ℕ) (p : ℕ) : Type 0 where
  pub sizes : Same 16 ds (q + 32) bs (p + 32)
  pub parts : Same (metadata_size ds q + data_size ds q + attachment_size ds q) ds (metadata_place ds₀ e q) bs (metadata_place bs₀ f p)

-- the metadata segments at m of ds and at n of bs: the two sizes; the XML and its attachment
pub record SameMetadata (ds : List ℕ) (m : ℕ) (bs : List ℕ) (n : ℕ) : Type 0 where
  pub sizes : Same 8 ds (m + 32) bs (n + 32)
  pub parts : Same (xml_size ds m + xml_attachment_size ds m) ds (m + 288) bs (n + 288)

-- where entry k of the attachment directory of the file bs stands
abbrev pub attachment_entry_of : List ℕ → ℕ → ℕ
attachment_entry_of bs k = attachment_entry (attachment_directory_position bs) k

-- the entries A1 at e of ds and at f of bs: every byte but 2 to 11, which are spare, and 12 to 19, the position
pub record SameAttachmentEntry (ds : List ℕ) (e : ℕ) (bs : List ℕ) (f : ℕ) : Type 0 where
  pub mark : Same 2 ds e bs f
  pub rest : Same 108 ds (e + 20) bs (f + 20)

-- the attachments at q of ds and at p of bs: the size; the data
pub record SameAttachment (ds : List ℕ) (q : ℕ) (bs : List ℕ) (p : ℕ) : Type 0 where
  pub size : Same 4 ds (q + 32) bs (p + 32)
  pub content : Same (attachment_data_size ds q) ds (q + 288) bs (p + 288)

-- the attachment directories at t of ds and at u of bs
pub record SameAttachments (ds : List ℕ) (t : ℕ) (bs : List ℕ) (u : ℕ) : Type 0 where
  pub count : Same 4 ds (t + 32) bs (u + 32)
  pub entry : (k : ℕ) → k < attachment_entry_count ds t → SameAttachmentEntry ds (attachment_entry t k) bs (attachment_entry u k)
  pub attachment : (k : ℕ) → k < attachment_entry_count ds t
      → SameAttachment ds (attachment_position ds (attachment_entry t k)) bs (attachment_position bs (attachment_entry u k))

-- two accepted scans say the same
pub record SameScans (a b : Scan) : Type 0 where
  pub release : a.release ≡ b.release
  pub accepted : verdict a ≡ Accepted
  pub accepted-too : verdict b ≡ Accepted
  -- Major and Minor, and the two GUIDs of the file segment
  pub version : Same 8 a.file 32 b.file 32
  pub guids : Same 32 a.file 48 b.file 48
  pub count : Same 4 a.file (directory_position a.file + 32) b.file (directory_position b.file + 32)
  pub entry : (k : ℕ) → k < tile_count a.file → SameEntry a.file (tile_entry a k) b.file (tile_entry b k)
  pub block : (k : ℕ) → k < tile_count a.file
      → SameBlock a.file (tile_entry a k) (tile_file a k) (tile_position a k) b.file (tile_entry b k) (tile_file b k) (tile_position b k)
  -- a metadata segment, and an attachment directory, in both or in neither
  pub metadata-named : eqb (metadata_position a.file) 0 ≡ eqb (metadata_position b.file) 0
  pub metadata : (metadata_position a.file ≡ 0 → ⊥) → SameMetadata a.file (metadata_position a.file) b.file (metadata_position b.file)
  pub attachments-named : eqb (attachment_directory_position a.file) 0 ≡ eqb (attachment_directory_position b.file) 0
  pub attachments : (attachment_directory_position a.file ≡ 0 → ⊥)
      → SameAttachments a.file (attachment_directory_position a.file) b.file (attachment_directory_position b.file)
